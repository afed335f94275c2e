use Rattle.std.proofs.Common.{◌≡◌, ℕ, ◌<◌, false, ℤ, slice_index_or}
use Rattle.ref_play.specs.declared.plays.Play.{Play}
use Rattle.gen_sinks.specs.Sinks.{seen, seen_pair}
use Rattle.gen_sinks.specs.Ranks.{ranks_before}
use Rattle.gen_sinks.proofs.placing.place_of.Given as goal

abbrev pub invariant-loop-place : goal.invariant-loop-place
invariant-loop-place l =
    (k : ℕ) (d : Play × ℤ) → k < l.place → ranks_before l.board (seen l.play l.score) (seen_pair (slice_index_or l.kept k d)) ≡ false
