use Rattle.std.proofs.Common.{ℕ, ◌≡◌, ◌<◌, length}
use Rattle.ref_board.specs.Lines.{square_at}
use Rattle.gen_moves.specs.Bounds.{IsPlaceOf, IsSmall, HasScores, place_in}
use Rattle.gen_moves.proofs.places.line_places.Given as goal

abbrev pub invariant-loop-place : goal.invariant-loop-place
invariant-loop-place l = record {
  size : length l.places ≡ 15;
  places : HasScores l.rules l.board l.cross → (i : ℕ) → i < l.place → IsPlaceOf l.rules l.dir l.board (square_at l.dir l.line i) (place_in l.places i);
  small : (i : ℕ) → i < l.place → IsSmall (place_in l.places i);
}
