use Rattle.std.proofs.lemmas.Result.{IfOk-weaker}
use Rattle.std.proofs.Common.{◌≤◌, map, take, arith}
use Rattle.gen_sinks.specs.Sinks.{seen_pair}
use Rattle.lex_check.specs.Pairs.{list_in}
use Rattle.game_report.proofs.Fronts.{legal_plays}
use Rattle.game_answers.specs.Plays.{ArePlaysOn, AreBestPlays}
use Rattle.game_answers.proofs.PlayLaws.{front_best}
use Rattle.game_answers.proofs.plays.best_plays.Goals as goal

pub front_plays-requires : goal.front_plays-requires
front_plays-requires c =
    legal_plays 10 c.args.rules.now (list_in c.args.pair.now) c.args.board.now c.args.rack.now (map seen_pair c.top_many-few.result.kept.items) c.items.result.now
    c.top_many-few.ensures.first c.items.ensures

pub returns-then-number-le-FEW : goal.returns-then-number-le-FEW
returns-then-number-le-FEW c =
    let n = c.args.number in
    let rules = c.args.rules.now in
    let list = list_in c.args.pair.now in
    let board = c.args.board.now in
    let rack = c.args.rack.now in
    let few : n ≤ 10 = omega arith in
    IfOk-weaker c.front_plays.result (λ kept. ArePlaysOn board (take n (map seen_pair c.items.result.now)) kept.items) (λ kept. AreBestPlays n rules list board rack kept.items)
    (λ kept. front_best 10 n rules list board rack (map seen_pair c.top_many-few.result.kept.items) (map seen_pair c.items.result.now) kept.items few c.top_many-few.ensures.first c.items.ensures)
    c.front_plays.ensures

pub front_plays-requires-2 : goal.front_plays-requires-2
front_plays-requires-2 c =
    legal_plays 100 c.args.rules.now (list_in c.args.pair.now) c.args.board.now c.args.rack.now (map seen_pair c.top_many-many.result.kept.items) c.items-2.result.now
    c.top_many-many.ensures.first c.items-2.ensures

pub returns : goal.returns
returns c =
    let n = c.args.number in
    let rules = c.args.rules.now in
    let list = list_in c.args.pair.now in
    let board = c.args.board.now in
    let rack = c.args.rack.now in
    IfOk-weaker c.front_plays-2.result (λ kept. ArePlaysOn board (take n (map seen_pair c.items-2.result.now)) kept.items) (λ kept. AreBestPlays n rules list board rack kept.items)
    (λ kept. front_best 100 n rules list board rack (map seen_pair c.top_many-many.result.kept.items) (map seen_pair c.items-2.result.now) kept.items c.requires c.top_many-many.ensures.first c.items-2.ensures)
    c.front_plays-2.ensures
