use Rattle.std.proofs.Common.{rules}
use Rattle.lex_file.proofs.files.LexFile.place.Goals as goal

pub returns : goal.returns
returns c = search rules
