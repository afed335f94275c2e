use Rattle.std.proofs.Common.{rules}
use Rattle.lex_file.proofs.mask_checks.is_mask.Goals as goal

pub returns-then-word-eq0 : goal.returns-then-word-eq0
returns-then-word-eq0 c = search rules
