use Rattle.std.proofs.Common.{arith}
use Rattle.lex_check.proofs.Stretches.{place_none}
use Rattle.lex_check.proofs.sorted.first_from.Goals as goal

pub returns-then-label_at-label-2 : goal.returns-then-label_at-label-2
returns-then-label_at-label-2 c = place_none c.args.paths.now c.args.stretch c.args.label c.requires (omega arith) (omega arith)
