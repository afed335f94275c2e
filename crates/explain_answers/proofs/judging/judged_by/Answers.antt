use Rattle.std.proofs.Common.{List, subst, arith}
use Rattle.game_walk.specs.declared.rows.Row.{Row}
use Rattle.explain_answers.specs.Judging.{AreRightTo}
use Rattle.explain_answers.proofs.FirstRefused.{after_refused, earlier_allowed, first_refused}
use Rattle.explain_answers.proofs.judging.judged_by.Goals as goal

pub returns-then-right-place : goal.returns-then-right-place
returns-then-right-place c = λ rules list events w within.
    let are = subst (λ (rows : List Row). AreRightTo rows c.count_right-right.result) c.as_slice.ensures.value c.count_right-right.ensures in
    after_refused rules list events c.args.walk.now c.args.refusal.now c.args.place c.count_right-right.result w c.requires are c.if-right-place.true

pub returns-then-place-right : goal.returns-then-place-right
returns-then-place-right c = λ rules list events w within.
    let are = subst (λ (rows : List Row). AreRightTo rows c.count_right-right.result) c.as_slice.ensures.value c.count_right-right.ensures in
    earlier_allowed rules list events c.args.walk.now c.args.refusal.now c.args.place c.count_right-right.result c.in_ok-game.game.now w c.requires are c.if-place-right.true
    (λ right is. c.in_ok-game.ensures.game rules list events right is)

pub returns : goal.returns
returns c = λ rules list events w within.
    let are = subst (λ (rows : List Row). AreRightTo rows c.count_right-right.result) c.as_slice.ensures.value c.count_right-right.ensures in
    first_refused rules list events c.args.walk.now c.args.refusal.now c.args.place c.count_right-right.result c.in_ok-game.game.now w c.requires are
    (omega (arith, c.if-right-place.false, c.if-place-right.false)) (λ right is. c.in_ok-game.ensures.game rules list events right is)

pub returns-in_err-game : goal.returns-in_err-game
returns-in_err-game c = λ rules list events w within.
    let are = subst (λ (rows : List Row). AreRightTo rows c.count_right-right.result) c.as_slice.ensures.value c.count_right-right.ensures in
    let reach = are.within in
    absurd (omega (arith, reach, c.if-right-place.false, c.in_err-game.ensures.none))
