use Rattle.std.proofs.Common.{subst}
use Rattle.repair_single.specs.Weighers.{wrong_by}
use Rattle.repair_single.specs.Trying.{IsWeight}
use Rattle.repair_single.proofs.PlaceChanges.{adds_none, adds_one}
use Rattle.repair_single.proofs.candidates.push_listed.Goals as goal

pub returns : goal.returns
returns c =
    let l = c.args.listed in
    λ plays single.
    adds_one (wrong_by c.args.weigher.now) c.args.rules.now c.args.list.now c.args.events.now plays c.args.below l c.in-Some.cost c.args.found.now.items c.push.new.self.items single
    (subst (IsWeight (wrong_by c.args.weigher.now) c.args.rules.now c.args.list.now c.args.events.now c.args.below l.change) c.in-Some.is c.in_ok-cost.ensures) c.in_ok-push.ensures.items

pub returns-in_default : goal.returns-in_default
returns-in_default c =
    let l = c.args.listed in
    λ plays single.
    adds_none (wrong_by c.args.weigher.now) c.args.rules.now c.args.list.now c.args.events.now plays c.args.below l c.args.found.now.items
    (subst (IsWeight (wrong_by c.args.weigher.now) c.args.rules.now c.args.list.now c.args.events.now c.args.below l.change) c.in_default.is c.in_ok-cost.ensures)
