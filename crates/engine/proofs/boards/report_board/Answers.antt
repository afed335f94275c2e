use Rattle.std.proofs.Common.{ap, ◌∙◌}
use Rattle.std.proofs.lemmas.Result.{IfOk-weaker}
use Rattle.engine_stages.specs.declared.verdicts.Verdict.TheVariants as verdict
use Rattle.engine.specs.Boards.{place_asked, IsShown, IsShownAt}
use Rattle.engine_stages.specs.Reports.{bad_line_line}
use Rattle.engine_stages.specs.Reporting.{IsReported}
use Rattle.engine.proofs.ShownBoards.{shown_by, none_there}
use Rattle.engine.proofs.boards.report_board.Goals as goal

pub returns-in-Some : goal.returns-in-Some
returns-in-Some c =
    let rules = c.args.rules.now in
    let r = c.args.game.now in
    let meant = place_asked r.events c.args.before in
    IfOk-weaker c.show_board.result (λ d. IsShown rules r c.in-Some.place d.verdict d.report.items) (λ d. IsShownAt rules r meant d.verdict d.report.items)
    (λ d reported. shown_by rules r c.place_asked.result meant c.in-Some.place d.verdict d.report.items (c.place_asked.ensures.place ∙ ap (λ events. place_asked events c.args.before) c.as_slice.ensures) c.in-Some.is reported) c.show_board.ensures

pub returns-in-None : goal.returns-in-None
returns-in-None c =
    let rules = c.args.rules.now in
    let r = c.args.game.now in
    let meant = place_asked r.events c.args.before in
    IfOk-weaker c.bad_line.result (λ d. IsReported verdict.BadLine bad_line_line d.verdict d.report.items) (λ d. IsShownAt rules r meant d.verdict d.report.items)
    (λ d reported. none_there rules r c.place_asked.result meant d.verdict d.report.items (c.place_asked.ensures.place ∙ ap (λ events. place_asked events c.args.before) c.as_slice.ensures) c.in-None.is reported) c.bad_line.ensures
