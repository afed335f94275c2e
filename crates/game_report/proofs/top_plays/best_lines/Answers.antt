use Rattle.std.proofs.lemmas.Result.{IfOk-weaker}
use Rattle.std.proofs.Common.{◌≡◌, ◌≤◌, map, take, arith}
use Rattle.gen_sinks.specs.Sinks.{seen_pair}
use Rattle.lex_check.specs.Pairs.{list_in}
use Rattle.game_report.specs.TopPlays.{top_text, ReportsFirst}
use Rattle.game_report.proofs.Fronts.{front_reported, legal_plays}
use Rattle.game_report.proofs.top_plays.best_lines.Goals as goal

pub front_lines-requires : goal.front_lines-requires
front_lines-requires c =
    legal_plays 10 c.args.rules.now (list_in c.args.pair.now) c.args.board.now c.args.rack.now (map seen_pair c.top_many-few.result.kept.items) c.items.result.now
    c.top_many-few.ensures.first c.items.ensures

pub returns-then-number-le-FEW : goal.returns-then-number-le-FEW
returns-then-number-le-FEW c =
    let n = c.args.number in
    let rules = c.args.rules.now in
    let list = list_in c.args.pair.now in
    let board = c.args.board.now in
    let rack = c.args.rack.now in
    let few : n ≤ 10 = omega arith in
    IfOk-weaker c.front_lines.result (λ text. text.items ≡ top_text board (take n (map seen_pair c.items.result.now))) (λ text. ReportsFirst n rules list board rack text.items)
    (λ text. front_reported 10 n rules list board rack (map seen_pair c.top_many-few.result.kept.items) (map seen_pair c.items.result.now) text.items few c.top_many-few.ensures.first c.items.ensures)
    c.front_lines.ensures

pub front_lines-requires-2 : goal.front_lines-requires-2
front_lines-requires-2 c =
    legal_plays 100 c.args.rules.now (list_in c.args.pair.now) c.args.board.now c.args.rack.now (map seen_pair c.top_many-many.result.kept.items) c.items-2.result.now
    c.top_many-many.ensures.first c.items-2.ensures

pub returns : goal.returns
returns c =
    let n = c.args.number in
    let rules = c.args.rules.now in
    let list = list_in c.args.pair.now in
    let board = c.args.board.now in
    let rack = c.args.rack.now in
    IfOk-weaker c.front_lines-2.result (λ text. text.items ≡ top_text board (take n (map seen_pair c.items-2.result.now))) (λ text. ReportsFirst n rules list board rack text.items)
    (λ text. front_reported 100 n rules list board rack (map seen_pair c.top_many-many.result.kept.items) (map seen_pair c.items-2.result.now) text.items c.requires c.top_many-many.ensures.first c.items-2.ensures)
    c.front_lines-2.ensures
