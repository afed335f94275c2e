use Rattle.std.proofs.Common.{refl, sym, ◌∙◌}
use Rattle.repair_single.specs.RackStops.{steps_in}
use Rattle.repair_single.proofs.FirstSteps.{kept_first}
use Rattle.repair_single.proofs.GoingWrong.{refused_again, stopped_again, if_ok_then, some_stop}
use Rattle.repair_single.proofs.nearby.goes_wrong_again.Goals as goal

pub returns-then-is_some : goal.returns-then-is_some
returns-then-is_some c =
    let has = some_stop c.args.walk.now.stopped (sym c.is_some.ensures ∙ c.if-is_some.true) in
    λ yes_it list written changed walked stopped taken.
    refused_again c.law_of_tallies.ensures c.args.rules.now list written changed c.args.walk.now c.args.start c.args.end c.args.many c.args.machine.now c.in-Some.game.now c.args.first.now.steps.items
    has.stop walked has.is (c.in-Some.ensures.there.0 refl) (c.in-Some.ensures.game c.args.rules.now list written walked) (c.is_like.ensures.0 c.if-not-is_like.false) taken

pub returns : goal.returns
returns c =
    if_ok_then c.stops_again.result
    (λ b stops yes_it list written changed walked stopped taken.
    stopped_again c.law_of_tallies.ensures c.args.rules.now list written changed (steps_in c.args.stop.now) c.args.first.now.steps.items c.args.start c.args.end c.args.many c.args.machine.now
    c.in-Some.game.now (kept_first c.args.rules.now list written c.args.stop.now stopped) (c.in-Some.ensures.game c.args.rules.now list written walked)
    (c.is_like.ensures.0 c.if-not-is_like.false) taken (stops yes_it))
    c.stops_again.ensures
