use Rattle.game_turns.proofs.SameLists.{SameTo}
use Rattle.game_turns.proofs.alike.are_same_tiles.Given as goal

abbrev pub invariant-loop-place : goal.invariant-loop-place
invariant-loop-place l = SameTo l.tiles l.others l.place
