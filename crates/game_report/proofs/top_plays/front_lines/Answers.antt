use Rattle.std.proofs.lemmas.Result.{IfOk-weaker}
use Rattle.std.proofs.Common.{◌≡◌, map, take, ◌∙◌, ap, sym}
use Rattle.std.specs.List.{take-map}
use Rattle.gen_sinks.specs.Sinks.{seen_pair}
use Rattle.game_report.specs.TopPlays.{top_text}
use Rattle.game_report.proofs.top_plays.front_lines.Goals as goal

pub returns : goal.returns
returns c =
    let board = c.args.board.now in
    let n = c.args.number in
    let plays = c.args.plays.now in
    IfOk-weaker c.top_lines.result (λ text. text.items ≡ top_text board (map seen_pair c.first_of.result.now)) (λ text. text.items ≡ top_text board (take n (map seen_pair plays)))
    (λ text reported. reported ∙ ap (λ front. top_text board (map seen_pair front)) c.first_of.ensures ∙ ap (top_text board) (sym (take-map seen_pair n plays)))
    c.top_lines.ensures
