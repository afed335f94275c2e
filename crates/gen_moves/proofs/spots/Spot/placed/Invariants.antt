use Rattle.std.proofs.Common.{◌≡◌, ◌≤◌, length}
use Rattle.gen_moves.specs.LineTiles.{new_tile}
use Rattle.gen_moves.proofs.Entering.{put_from}
use Rattle.gen_moves.proofs.spots.Spot.placed.Given as goal

-- the tiles of the places passed
abbrev pub invariant-loop-place : goal.invariant-loop-place
invariant-loop-place l = record {
  few : length l.placed.items ≤ l.place;
  passed : l.placed.items ≡ put_from l.self.dir l.self.line (new_tile l.tiles) 0 l.place;
}
