use Rattle.ref_play.specs.Words.{items_of}
use Rattle.game_turns.proofs.SameLists.{SameTo}
use Rattle.game_turns.proofs.alike.are_same_words.Given as goal

abbrev pub invariant-loop-place : goal.invariant-loop-place
invariant-loop-place l = SameTo (items_of l.words) (items_of l.others) l.place
