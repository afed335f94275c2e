use Rattle.std.proofs.Common.{◌≡◌, drop}
use Rattle.std.specs.List.{list_any}
use Rattle.explain_facts.specs.Challenges.{is_amount}
use Rattle.explain_facts.proofs.challenges.is_among.Given as goal

abbrev pub invariant-loop-amount : goal.invariant-loop-amount
invariant-loop-amount l = list_any (is_amount l.points) (drop l.amount-index l.amounts) ≡ list_any (is_amount l.points) l.amounts
