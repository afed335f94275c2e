use Rattle.std.proofs.Common.{◌≡◌, ◌+◌, ◌*◌, ◌/◌, ◌%◌, ◌∙◌, arith}
use Rattle.explain_clues.proofs.Steps.{none_yet, one_more}
use Rattle.explain_clues.proofs.spots.push_along.Goals as goal

pub loop-number-init : goal.loop-number-init
loop-number-init c = none_yet c.args.spots.now.items c.args.rules.now c.args.board.now c.args.word.now c.args.wanted c.args.dir

pub loop-number-preserved : goal.loop-number-preserved
loop-number-preserved c =
    let k = c.loop-number.number in
    let same : 15 * (k / 15) + k % 15 ≡ k = omega arith in
    one_more c.args.spots.now.items c.loop-number.spots.items c.push_spot.new.spots.items c.args.rules.now c.args.board.now c.args.word.now c.args.wanted c.args.dir k c.on_line-at.result (c.on_line-at.ensures ∙ same) c.loop-number.invariant c.in_ok-push_spot.ensures
