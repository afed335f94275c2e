use Rattle.std.proofs.Common.{◌+◌, ◌<◌, ◌≤◌, ℕ, get_or}
use Rattle.deal_steps.proofs.known.Known.short_kind.Given as goal

abbrev pub invariant-loop-kind : goal.invariant-loop-kind
invariant-loop-kind l = (k : ℕ) → k < l.kind → get_or l.laid k 0 + get_or l.first k 0 + get_or l.second k 0 ≤ get_or l.all k 0
