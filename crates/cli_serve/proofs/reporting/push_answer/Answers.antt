use Rattle.lex_check.specs.Pairs.{list_in}
use Rattle.reply_texts.specs.Bodies.{object_in, text_in}
use Rattle.cli_serve.proofs.AnswerLines.{reported}
use Rattle.cli_serve.proofs.reporting.push_answer.Goals as goal

pub returns-in-Ok-clause-line : goal.returns-in-Ok-clause-line
returns-in-Ok-clause-line c =
    reported c.args.judges.now.maker.now c.args.judges.now.rules.now (list_in c.args.judges.now.pair.now) c.args.request.now c.in-Ok.response.exit (object_in c.in-Ok.response.body)
    (text_in c.in-Ok.response.body) c.args.id.now c.args.out.now.items c.push_response.new.out.items c.push_response.result c.in-Ok.ensures.answer c.push_response.ensures
