use Rattle.std.proofs.Common.{ℕ}
use Rattle.gen_moves.specs.LineTiles.{new_tile}
use Rattle.gen_moves.specs.Bounds.{place_in}
use Rattle.gen_moves.specs.Tallies.{IsSmallTally, LiesOn}
use Rattle.gen_moves.proofs.Tallying.{TallyAt}
use Rattle.gen_moves.proofs.tallies.tally_of.Given as goal

abbrev pub invariant-loop-place : goal.invariant-loop-place
invariant-loop-place l = record {
  small : IsSmallTally l.place l.tally;
  known : (first len : ℕ) → LiesOn (place_in l.places) (new_tile l.tiles) first len → TallyAt l.rules (place_in l.places) (new_tile l.tiles) first len l.place l.tally;
}
