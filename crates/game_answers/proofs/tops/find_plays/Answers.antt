use Rattle.lex_check.specs.Pairs.{list_in}
use Rattle.game_answers.proofs.TopLaws.{reports_plays}
use Rattle.game_answers.proofs.tops.find_plays.Goals as goal

pub returns : goal.returns
returns c =
    let question = c.args.question.now in
    reports_plays question.number question.before c.args.asked.now.rules.now (list_in c.args.asked.now.pair.now) question.rack _ c.in_ok-found.found c.in_ok-found.ensures
