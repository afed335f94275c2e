use Rattle.lex_check.specs.Pairs.{list_in}
use Rattle.game_notes.specs.Following.{Follows}
use Rattle.game_known.proofs.besides.lay_all.Given as goal

abbrev pub invariant-loop-place : goal.invariant-loop-place
invariant-loop-place l = Follows l.rules (list_in l.pair) l.follow
