use Rattle.lex_check.specs.Pairs.{list_in}
use Rattle.page_answers.proofs.ShownCases.{shown_for, of_own}
use Rattle.page_answers.proofs.cases.shown_of.Goals as goal

pub returns : goal.returns
returns c =
    λ text is.
    let rules = c.args.rules.now in
    let list = list_in c.args.pair.now in
    let case = c.args.case.now in
    shown_for rules list case.text.items text case.read c.args.likely.now case.walk c.in-Ok.entry c.in-Some.walk c.in_ok-contents.contents c.in-Ok.is c.in-Some.is is.0 is.2
    (λ right walked. c.in_ok-contents.ensures right walked (of_own rules list text case is))
