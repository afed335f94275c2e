use Rattle.std.proofs.Common.{rules}
use Rattle.lex_file.proofs.opening.leads_back.Goals as goal

pub returns-then-target-start : goal.returns-then-target-start
returns-then-target-start c = search rules
