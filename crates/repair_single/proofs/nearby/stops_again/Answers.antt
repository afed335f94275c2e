use Rattle.std.proofs.Common.{◌∙◌, List, Option, sym, subst, arith}
use Rattle.deal_steps.specs.declared.steps.Step.{Step}
use Rattle.repair_single.specs.RackStops.{NoneWith, StopsAgain, steps_in}
use Rattle.repair_single.specs.declared.rack_stops.RackStop.{RackStop}
use Rattle.repair_single.proofs.nearby.stops_again.Goals as goal

pub returns : goal.returns
returns c =
    let rules = c.args.rules.now in
    let stop = c.in-Some.stop in
    let first = c.args.first.now.steps in
    let many = c.len.ensures ∙ first.ok.0 in
    let kept = c.len-2.ensures ∙ stop.steps.ok.0 in
    let below = c.if-end-len.false in
    λ yes_it.
    subst (λ (o : Option RackStop). StopsAgain rules (steps_in o) c.args.start c.args.many c.args.end first.items) (sym c.in-Some.is)
    (record {
      all = c.in_ok-all.all.steps.items;
      around = c.in_ok-all.ensures;
      none = subst (λ (steps : List Step). NoneWith rules steps) c.as_slice.ensures.value (c.have_no_deal.ensures yes_it);
      as_many = sym many ∙ c.if-len-many.false;
      within = omega (arith, kept, below);
      before = c.if-start-end.false;
    })
