use Rattle.std.proofs.Common.{◌≡◌, ◌<◌, ℕ, length, get_or}
use Rattle.gen_moves.specs.LineTiles.{tile_of_entry, new_tile}
use Rattle.gen_moves.proofs.entries.line_tiles.Given as goal

-- each place passed has the tile of its entry
abbrev pub invariant-loop-place : goal.invariant-loop-place
invariant-loop-place l = record {
  size : length l.tiles ≡ 15;
  passed : (k : ℕ) → k < l.place → new_tile l.tiles k ≡ tile_of_entry (get_or l.entries k 0);
}
