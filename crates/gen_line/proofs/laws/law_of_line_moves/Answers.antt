use Rattle.gen_line.proofs.GivenMoves.{gives_the_moves, gives_none_twice}
use Rattle.gen_line.proofs.laws.law_of_line_moves.Goals as goal

pub returns-clause-moves : goal.returns-clause-moves
returns-clause-moves c = gives_the_moves

pub returns-clause-once : goal.returns-clause-once
returns-clause-once c = gives_none_twice
