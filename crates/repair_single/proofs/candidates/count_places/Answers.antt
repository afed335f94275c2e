use Rattle.std.proofs.Common.{Option, ◌∙◌, subst, arith}
use Rattle.repair_single.specs.RackStops.{IsStop}
use Rattle.repair_single.specs.declared.rack_stops.RackStop.{RackStop}
use Rattle.repair_single.proofs.PlaceChanges.{within_walk, within_both}
use Rattle.repair_single.proofs.candidates.count_places.Goals as goal

pub returns-in-Some-clause-all : goal.returns-in-Some-clause-all
returns-in-Some-clause-all c =
    λ weigh rules list events plays below listed walked stop may.
    within_both weigh rules list events plays below c.args.walk.now c.len-rows.result c.in-Some.stop.end _ c.in-Some.stop.steps.items (c.len-rows.ensures ∙ c.args.walk.now.rows.ok.0) walked
    (subst (λ (o : Option RackStop). IsStop rules list events o) c.in-Some.is stop) (omega arith) listed may

pub returns-in-None-clause-all : goal.returns-in-None-clause-all
returns-in-None-clause-all c =
    λ weigh rules list events plays below listed walked stop may.
    let one = within_walk weigh rules list events plays below c.args.walk.now listed walked may in
    omega arith
