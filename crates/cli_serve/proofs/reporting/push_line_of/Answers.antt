use Rattle.lex_check.specs.Pairs.{list_in}
use Rattle.serde_json.specs.View.{view}
use Rattle.cli_serve.proofs.AnswerLines.{refused}
use Rattle.cli_serve.proofs.reporting.push_line_of.Goals as goal

pub returns-in-Err-clause-line : goal.returns-in-Err-clause-line
returns-in-Err-clause-line c =
    refused c.args.judges.now.maker.now c.args.judges.now.rules.now (list_in c.args.judges.now.pair.now) (view c.args.object.now) c.in-Err.refusal c.args.out.now.items
    c.push_no_request.new.out.items c.push_no_request.result c.in-Err.ensures.reason c.push_no_request.ensures
