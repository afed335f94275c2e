use Rattle.lex_check.specs.Pairs.{list_in}
use Rattle.cli_serve.proofs.Responses.{answered}
use Rattle.cli_serve.proofs.answering.answer_to.Goals as goal

pub returns-in-Ok-clause-answer : goal.returns-in-Ok-clause-answer
returns-in-Ok-clause-answer c =
    answered c.args.judges.now.maker.now c.args.judges.now.rules.now (list_in c.args.judges.now.pair.now) c.args.request.now c.in-Ok.reply c.response_of.result c.in-Ok.ensures.reply
    c.response_of.ensures.status c.response_of.ensures.has_object c.response_of.ensures.has_text
