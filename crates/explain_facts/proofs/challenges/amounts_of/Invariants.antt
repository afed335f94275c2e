use Rattle.std.proofs.Common.{◌≡◌, ◌*◌, map}
use Rattle.std.specs.List.{range_with_len}
use Rattle.explain_facts.proofs.challenges.amounts_of.Given as goal

abbrev pub invariant-loop-k : goal.invariant-loop-k
invariant-loop-k l =
    record {
      amounts : l.amounts.items ≡ map (λ n. l.unit * n) (range_with_len 1 l.k);
      last : l.amount ≡ l.unit * l.k;
    }
