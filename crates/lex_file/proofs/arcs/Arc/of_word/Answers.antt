use Rattle.std.proofs.Common.{rules}
use Rattle.lex_file.proofs.arcs.Arc.of_word.Goals as goal

pub returns : goal.returns
returns c = search rules
