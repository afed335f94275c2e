use Rattle.game_turns.proofs.SameLists.{SameTo}
use Rattle.game_turns.proofs.alike.are_same_cells.Given as goal

abbrev pub invariant-loop-place : goal.invariant-loop-place
invariant-loop-place l = SameTo l.cells l.others l.place
