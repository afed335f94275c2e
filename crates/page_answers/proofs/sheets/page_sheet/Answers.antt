use Rattle.lex_check.specs.Pairs.{list_in}
use Rattle.page_answers.proofs.SheetLaws.{parts_are}
use Rattle.page_answers.proofs.sheets.page_sheet.Goals as goal

pub returns : goal.returns
returns c =
    λ right walked.
    parts_are c.args.rules.now (list_in c.args.pair.now) c.args.game.now right c.args.place c.in_ok-sheet.sheet c.parts_of.result (c.in_ok-sheet.ensures right walked) c.parts_of.ensures
