use Rattle.std.proofs.Common.{ℕ, ℤ, ◌<◌, slice_index_or}
use Rattle.ref_play.specs.declared.plays.Play.{Play}
use Rattle.gen_sinks.specs.Skips.{IsBeforeDown}
use Rattle.gen_sinks.proofs.placing.all_before_down.Given as goal

abbrev pub invariant-loop-place : goal.invariant-loop-place
invariant-loop-place l = (place : ℕ) (d : Play × ℤ) → place < l.place → IsBeforeDown l.board l.bound (slice_index_or l.kept place d)
