use Rattle.std.proofs.Common.{◌≡◌, ◌+◌, ◌*◌, ◌/◌, ◌%◌, ◌++◌, [], ◌∷◌, map, ap, sym, ◌∙◌, arith}
use Rattle.std.specs.List.{range_with_len}
use Rattle.ref_play.proofs.Ranges.{map_range_more}
use Rattle.explain_clues.specs.Boards.{shown_square, shown_squares}
use Rattle.explain_clues.proofs.boards.shown_board.Goals as goal

pub loop-number-preserved : goal.loop-number-preserved
loop-number-preserved c =
    let k = c.loop-number.number in
    let f = shown_square c.args.rules.now c.args.board.now c.args.kind.now in
    let same : 15 * (k / 15) + k % 15 ≡ k = omega arith in
    c.in_ok-push.ensures.items ∙ ap (λ s. s ++ c.shown_square.result ∷ []) c.loop-number.invariant
    ∙ ap (λ x. map f (range_with_len 0 k) ++ x ∷ []) (c.shown_square.ensures ∙ ap f (c.on_line-square.ensures ∙ same)) ∙ sym (map_range_more f k)

pub returns : goal.returns
unfolding shown_squares
returns c =
    let f = shown_square c.args.rules.now c.args.board.now c.args.kind.now in
    let all : c.loop-number.number ≡ 225 = omega (arith, c.loop-number.auto.number-end, c.loop-number-test.false) in
    c.loop-number.invariant ∙ ap (λ n. map f (range_with_len 0 n)) all
