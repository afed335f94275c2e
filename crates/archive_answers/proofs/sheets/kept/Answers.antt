use Rattle.std.proofs.Common.{◌∙◌, sym, refl, true, false}
use Rattle.lex_check.specs.Pairs.{list_in}
use Rattle.archive_answers.specs.Sheets.{has_page}
use Rattle.archive_answers.proofs.Keeping.{kept_by}
use Rattle.archive_answers.proofs.sheets.kept.Goals as goal

pub returns-then-not-has_page : goal.returns-then-not-has_page
returns-then-not-has_page c =
    λ text asked is repair.
    kept_by (has_page c.args.case.read) false asked c.args.maker.now c.args.rules.now (list_in c.args.pair.now) text c.args.case c.args.likely _
    (sym c.has_page.ensures ∙ c.if-not-has_page.true) (refl, refl)

pub returns-in-Ok : goal.returns-in-Ok
returns-in-Ok c =
    λ text asked is repair.
    kept_by (has_page c.args.case.read) true asked c.args.maker.now c.args.rules.now (list_in c.args.pair.now) text c.args.case c.args.likely _
    (sym c.has_page.ensures ∙ c.if-not-has_page.false) (c.in-Ok.ensures.same, c.in-Ok.ensures.shown text asked is repair)

pub returns-in-Err : goal.returns-in-Err
returns-in-Err c =
    λ text asked is repair.
    kept_by (has_page c.args.case.read) true asked c.args.maker.now c.args.rules.now (list_in c.args.pair.now) text c.args.case c.args.likely _
    (sym c.has_page.ensures ∙ c.if-not-has_page.false) tt
