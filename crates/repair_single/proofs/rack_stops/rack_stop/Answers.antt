use Rattle.std.proofs.Common.{◌≡◌, List, take, Option, sym, subst}
use Rattle.std.specs.Prelude.{IfSome}
use Rattle.deal_steps.specs.declared.steps.Step.{Step}
use Rattle.repair_single.specs.FirstSteps.{AreFirstSteps}
use Rattle.repair_single.specs.RackStops.{NoneWith}
use Rattle.repair_single.specs.declared.rack_stops.RackStop.{RackStop}
use Rattle.repair_single.proofs.rack_stops.rack_stop.Goals as goal

pub returns : goal.returns
returns c =
    let rules = c.args.rules.now in
    let steps = c.in_ok-steps.steps.items in
    let stop = c.in-Some.stop in
    let kept : stop.steps.items ≡ steps = subst (λ (o : Option RackStop). IfSome o (λ s. s.steps.items ≡ steps)) c.in-Some.is c.in_ok-stop.ensures in
    λ list walked.
    record {
      first = subst (AreFirstSteps rules list c.args.events.now) (sym kept) (c.in_ok-steps.ensures rules list walked);
      none = subst (λ (ss : List Step). NoneWith rules (take stop.end ss)) c.deref.ensures.value (c.have_no_deal.ensures c.if-not-have_no_deal.false);
    }
