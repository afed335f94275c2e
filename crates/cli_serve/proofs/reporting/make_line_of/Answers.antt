use Rattle.std.proofs.Common.{codes}
use Rattle.lex_check.specs.Pairs.{list_in}
use Rattle.serde_json.specs.View.{view}
use Rattle.cli_serve.proofs.AnswerLines.{id_refused_first}
use Rattle.cli_serve.proofs.reporting.make_line_of.Goals as goal

pub returns-in-Err-clause-line : goal.returns-in-Err-clause-line
returns-in-Err-clause-line c =
    id_refused_first c.args.judges.now.maker.now c.args.judges.now.rules.now (list_in c.args.judges.now.pair.now) (view c.args.object.now) c.in-Err.refusal (codes "null") c.args.out.now.items
    c.push_refused.new.out.items c.push_refused.result c.requires.empty c.in-Err.ensures.reason c.push_refused.ensures
