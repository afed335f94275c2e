use Rattle.std.proofs.Common.{rules}
use Rattle.ref_tiles.specs.Limits.{most_tiles}
use Rattle.ref_tiles.proofs.parts.is_tile_set.Goals as goal

pub returns-then-total-ge-MIN_TILES : goal.returns-then-total-ge-MIN_TILES
unfolding most_tiles
returns-then-total-ge-MIN_TILES c = search rules
