use Rattle.std.proofs.Common.{◌≡◌, map, take}
use Rattle.game_json.specs.Plays.{placed_byte}
use Rattle.game_json.proofs.plays.placed_tree.Given as goal

abbrev pub invariant-loop-placed : goal.invariant-loop-placed
invariant-loop-placed l = l.text.items ≡ map placed_byte (take l.placed-index l.tiles)
