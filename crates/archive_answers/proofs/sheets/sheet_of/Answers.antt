use Rattle.std.proofs.Common.{refl, Some, None}
use Rattle.lex_check.specs.Pairs.{list_in}
use Rattle.archive_answers.proofs.Keeping.{sheet_by}
use Rattle.archive_answers.proofs.sheets.sheet_of.Goals as goal

pub returns-in-Some : goal.returns-in-Some
returns-in-Some c =
    λ text is repair.
    sheet_by c.args.asked.now.page (Some c.in-Some.maker) c.args.asked.now.likely c.args.rules.now (list_in c.args.pair.now) text c.args.case c.args.likely _ c.in-Some.is
    (c.kept.ensures text c.args.asked.now.likely is repair)

pub returns-in-None : goal.returns-in-None
returns-in-None c =
    λ text is repair.
    sheet_by c.args.asked.now.page None c.args.asked.now.likely c.args.rules.now (list_in c.args.pair.now) text c.args.case c.args.likely _ c.in-None.is (refl, refl)
