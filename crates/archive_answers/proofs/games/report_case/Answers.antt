use Rattle.lex_check.specs.Pairs.{list_in}
use Rattle.archive_answers.proofs.Reporting.{reports}
use Rattle.archive_answers.proofs.games.report_case.Goals as goal

pub returns : goal.returns
returns c =
    λ text is.
    reports c.args.asked.now c.args.rules.now (list_in c.args.pair.now) c.args.name text c.args.case c.likely_asked.new.case c.is_some-paged.result c.in_ok-likely.likely c.in_ok-plain.plain
    c.with_asked.result c.page_before-page.result c.in_ok-said.said c.in_ok-words.words c.sheet_of-sheet.result c.in_ok-likely.ensures.same is c.is_some-paged.ensures
    c.in_ok-likely.ensures.likely c.in_ok-plain.ensures c.in_ok-said.ensures c.in_ok-words.ensures c.sheet_of-sheet.ensures c.page_before-page.ensures c.with_asked.ensures
