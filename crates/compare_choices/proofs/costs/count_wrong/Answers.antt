use Rattle.std.proofs.Common.{◌≡◌, ◌+◌, ◌∙◌, ap, length, min, arith}
use Rattle.game_corrections.specs.WrongNumbers.{wrong_lines}
use Rattle.compare_choices.proofs.Wrong.{wrong_to, wrong_more}
use Rattle.compare_choices.proofs.costs.count_wrong.Goals as goal

pub loop-place-preserved : goal.loop-place-preserved
loop-place-preserved c =
    let score = c.wrong_at-wrong.ensures.score in
    let sum = c.wrong_at-wrong.ensures.sum in
    let scores = c.loop-place.invariant.few_scores in
    let sums = c.loop-place.invariant.few_sums in
    let more = wrong_more c.args.written.now c.args.right.now c.loop-place.place (c.loop-place.scores + c.loop-place.sums) (c.wrong_at-wrong.result.score + c.wrong_at-wrong.result.sum)
    c.loop-place.invariant.so_far c.wrong_at-wrong.ensures.many in
    record { so_far = omega (arith, more); few_scores = omega (arith, score, scores); few_sums = omega (arith, sum, sums) }

pub returns-clause-many : goal.returns-clause-many
unfolding wrong_lines
returns-clause-many c =
    let end = c.lesser-end.ensures in
    let within = c.loop-place.auto.place-end in
    let past = c.loop-place-test.false in
    let same : c.loop-place.place ≡ min (length c.args.written.now) (length c.args.right.now) = omega (arith, end, within, past) in
    c.loop-place.invariant.so_far ∙ ap (wrong_to c.args.written.now c.args.right.now) same
