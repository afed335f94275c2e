use Rattle.std.proofs.lemmas.Result.{IfOk-weaker}
use Rattle.std.proofs.Common.{map, take, ◌∙◌, ap, sym}
use Rattle.std.specs.List.{take-map}
use Rattle.gen_sinks.specs.Sinks.{seen_pair}
use Rattle.game_answers.specs.Plays.{play_on, ArePlaysOn}
use Rattle.game_answers.proofs.plays.front_plays.Goals as goal

pub returns : goal.returns
returns c =
    let board = c.args.board.now in
    let n = c.args.number in
    let plays = c.args.plays.now in
    IfOk-weaker c.scored_plays.result (λ kept. ArePlaysOn board (map seen_pair c.first_of.result.now) kept.items) (λ kept. ArePlaysOn board (take n (map seen_pair plays)) kept.items)
    (λ kept reported. reported ∙ ap (λ front. map (play_on board) (map seen_pair front)) c.first_of.ensures ∙ ap (map (play_on board)) (sym (take-map seen_pair n plays)))
    c.scored_plays.ensures
