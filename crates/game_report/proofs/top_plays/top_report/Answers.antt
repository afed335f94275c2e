use Rattle.std.proofs.lemmas.Result.{IfOk-weaker}
use Rattle.std.proofs.Common.{◌≡◌, map, subst, sym, ◌∙◌}
use Rattle.ref_tiles.specs.declared.rulebook.Rules.{Rules}
use Rattle.gen_sinks.specs.Sinks.{seen_pair}
use Rattle.game_turns.specs.Passing.{rules_in, record_in}
use Rattle.lex_check.specs.Pairs.{list_in}
use Rattle.game_notes.specs.Following.{board_of}
use Rattle.game_notes.specs.Tops.{AreTop}
use Rattle.game_report.specs.TopPlays.{AreLegal, top_text, board_after, ReportsTop}
use Rattle.game_report.proofs.TopLines.{plays_are_legal, reports_top}
use Rattle.game_report.proofs.top_plays.top_report.Goals as goal

pub returns : goal.returns
returns c =
    let rules = rules_in c.args.passed.now in
    let list = list_in c.args.pair.now in
    let board = c.board.result.now in
    let follow = c.follow_all-follow.result in
    let there = board_after rules (record_in c.args.passed.now).events in
    let rack = c.args.rack.now in
    let kept = map seen_pair c.top-plays.result.kept.items in
    let are = subst (λ b. AreTop rules list b rack kept) (sym c.board.ensures) (subst (λ (r : Rules). AreTop r list (board_of follow) rack kept) c.rules.ensures c.top-plays.ensures.top) in
    IfOk-weaker c.top_lines.result (λ text. text.items ≡ top_text board (map seen_pair c.items.result.now)) (λ text. ReportsTop rules list there rack text.items)
    (λ text reported. reports_top rules list board there rack kept c.items.result.now text.items (c.board.ensures ∙ c.follow_all-follow.ensures.board) are c.items.ensures reported) c.top_lines.ensures

pub top_lines-requires : goal.top_lines-requires
top_lines-requires c =
    let follow = c.follow_all-follow.result in
    subst (λ b. AreLegal b c.items.result.now) (sym c.board.ensures)
    (plays_are_legal c.rules.result.now (list_in c.args.pair.now) (board_of follow) c.args.rack.now (map seen_pair c.top-plays.result.kept.items) c.items.result.now
    c.top-plays.ensures.top c.items.ensures)
