use Rattle.std.proofs.Common.{◌≡◌, ◌<◌, ℕ, Some, slice_get}
use Rattle.game_walk.specs.declared.rows.Row.{Row}
use Rattle.explain_answers.proofs.judging.count_right.Given as goal

abbrev pub invariant-loop-place : goal.invariant-loop-place
invariant-loop-place l = (k : ℕ) (row : Row) → k < l.place → slice_get l.rows k ≡ Some row → row.written ≡ row.right
