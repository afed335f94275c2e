use Rattle.std.proofs.Common.{◌≡◌, ◌+◌, get_or}
use Rattle.deal_steps.proofs.PileLaws.{IsFilled}
use Rattle.deal_steps.proofs.piles.joined.Given as goal

abbrev pub invariant-loop-kind : goal.invariant-loop-kind
invariant-loop-kind l = IsFilled (λ k. get_or l.fn.tiles k 0 + get_or l.fn.others k 0) l.fn.tiles l.numbers l.kind × (l.more ≡ l.fn.others)
