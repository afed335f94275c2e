use Rattle.std.proofs.Common.{refl}
use Rattle.archive_answers.proofs.Reporting.{reports_none}
use Rattle.archive_answers.proofs.games.unread_game.Goals as goal

pub returns : goal.returns
returns c =
    reports_none c.args.asked.now c.args.name c.args.why c.is_some.result c.unread.result c.with_asked.result c.page_before-page.result c.none_said.result c.no_words.result _ c.is_some.ensures
    c.unread.ensures c.none_said.ensures c.page_before-page.ensures c.with_asked.ensures c.no_words.ensures refl
