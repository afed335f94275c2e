use Rattle.std.proofs.Common.{codes}
use Rattle.cli_serve.proofs.AnswerLines.{refused_by}
use Rattle.cli_serve.proofs.reporting.push_no_request.Goals as goal

pub returns-then-eq : goal.returns-then-eq
returns-then-eq c = refused_by (codes "null") c.args.out.now.items c.push_refused.new.out.items c.push_refused.result c.push_refused.ensures
