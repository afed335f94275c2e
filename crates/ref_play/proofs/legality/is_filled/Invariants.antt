use Rattle.std.proofs.Common.{◌≡◌, ℕ, ◌<◌, ◌≤◌, true}
use Rattle.ref_board.specs.Cells.{occupied_on}
use Rattle.ref_play.proofs.legality.is_filled.Given as goal

abbrev pub invariant-loop-place : goal.invariant-loop-place
invariant-loop-place l = (k : ℕ) → l.start ≤ k → k < l.place → occupied_on l.dir l.board l.line k ≡ true
