use Rattle.std.proofs.Common.{rules}
use Rattle.lex_file.proofs.faults.FileFault.name.Goals as goal

pub returns-in-Order : goal.returns-in-Order
returns-in-Order c = search rules
