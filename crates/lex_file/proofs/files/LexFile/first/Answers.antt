use Rattle.std.proofs.Common.{rules}
use Rattle.lex_file.proofs.files.LexFile.first.Goals as goal

pub returns-clause-none : goal.returns-clause-none
returns-clause-none c = search rules

pub returns-clause-some : goal.returns-clause-some
returns-clause-some c = search rules
