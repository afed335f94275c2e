use Rattle.std.proofs.Common.{◌∙◌, sym, ap}
use Rattle.std.specs.Option.{is_some}
use Rattle.repair_single.proofs.FirstSteps.{none_bounded, none_cut}
use Rattle.repair_single.proofs.rack_stops.have_no_deal.Goals as goal

pub returns-then-is_some : goal.returns-then-is_some
returns-then-is_some c =
    λ so. none_bounded c.law_of_bounds.ensures c.args.rules.now c.args.steps.now (ap is_some (sym c.first_bound.ensures) ∙ sym c.is_some.ensures ∙ c.if-is_some.true)

pub returns-in-Some : goal.returns-in-Some
returns-in-Some c = λ so. none_cut c.law_of_fronts.ensures.fit c.args.rules.now c.args.steps.now (c.rules_out.ensures.whole so)
