use Rattle.std.proofs.Common.{ℕ, ◌<◌, ◌≤◌, slice_index}
use Rattle.ref_play.specs.Candidates.{used}
use Rattle.explain_facts.proofs.readings.is_on_rack.Given as goal

abbrev pub invariant-loop-number : goal.invariant-loop-number
invariant-loop-number l = (k : ℕ) → k < l.number → used l.tiles k ≤ slice_index l.rack k
