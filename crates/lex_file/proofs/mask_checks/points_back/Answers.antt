use Rattle.std.proofs.Common.{rules}
use Rattle.lex_file.proofs.mask_checks.points_back.Goals as goal

pub returns-then-target-number : goal.returns-then-target-number
returns-then-target-number c = search rules
