use Rattle.std.proofs.Common.{rules}
use Rattle.page_pieces.specs.Escaping.{written}
use Rattle.page_pieces.proofs.escaping.push_byte.Goals as goal

pub returns-in-60-clause-done : goal.returns-in-60-clause-done
unfolding written
returns-in-60-clause-done c = search rules

pub returns-in-34-clause-done : goal.returns-in-34-clause-done
unfolding written
returns-in-34-clause-done c = search rules
