use Rattle.std.proofs.Common.{rules}
use Rattle.lex_file.proofs.files.LexFile.format.Goals as goal

pub returns : goal.returns
returns c = search rules
