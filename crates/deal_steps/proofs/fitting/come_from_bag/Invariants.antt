use Rattle.std.proofs.Common.{◌+◌, ◌<◌, ◌≤◌, ℕ, get_or}
use Rattle.deal_steps.proofs.fitting.come_from_bag.Given as goal

abbrev pub invariant-loop-kind : goal.invariant-loop-kind
invariant-loop-kind l = (k : ℕ) → k < l.kind
    → (get_or l.before k 0 ≤ get_or l.after k 0 + get_or l.gone k 0)
    × (get_or l.after k 0 + get_or l.gone k 0 ≤ get_or l.before k 0 + get_or l.there k 0)
