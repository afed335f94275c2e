use Rattle.std.proofs.Common.{rules}
use Rattle.lex_file.proofs.formats.Format.of.Goals as goal

pub returns-then-starts_with : goal.returns-then-starts_with
returns-then-starts_with c = search rules
