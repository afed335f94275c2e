use Rattle.std.proofs.Common.{◌≡◌, take}
use Rattle.game_deal.specs.Recorded.{placed_tiles}
use Rattle.game_deal.proofs.recording.placed_tiles.Given as goal

abbrev pub invariant-loop-new : goal.invariant-loop-new
invariant-loop-new l = l.tiles ≡ placed_tiles (take l.new-index l.placed)
