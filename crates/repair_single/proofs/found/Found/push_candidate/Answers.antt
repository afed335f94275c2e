use Rattle.std.proofs.Common.{subst}
use Rattle.repair_changes.specs.Applied.{applied}
use Rattle.repair_single.specs.Weighers.{wrong_by}
use Rattle.repair_single.specs.Trying.{IsCorrectionOf}
use Rattle.repair_single.proofs.Reportings.{tried_ok, none_tried}
use Rattle.repair_single.proofs.found.Found.push_candidate.Goals as goal

pub push_right-requires : goal.push_right-requires
push_right-requires c =
    subst (IsCorrectionOf c.args.rules.now c.args.list.now (applied c.args.candidate.listed.change c.args.events.now)) c.in-Some.is c.in_ok-right.ensures

pub returns-in-Some-clause-tried : goal.returns-in-Some-clause-tried
returns-in-Some-clause-tried c =
    let is = subst (IsCorrectionOf c.args.rules.now c.args.list.now (applied c.args.candidate.listed.change c.args.events.now)) c.in-Some.is c.in_ok-right.ensures in
    tried_ok (wrong_by c.args.weigher.now) c.args.rules.now c.args.list.now c.args.events.now c.args.candidate c.in-Some.right c.args.self.now c.push_right.new.self c.push_right.result is c.push_right.ensures.tried

pub returns-in-None-clause-tried : goal.returns-in-None-clause-tried
returns-in-None-clause-tried c =
    none_tried (wrong_by c.args.weigher.now) c.args.rules.now c.args.list.now c.args.events.now c.args.candidate c.args.self.now c.args.self.now
    (subst (IsCorrectionOf c.args.rules.now c.args.list.now (applied c.args.candidate.listed.change c.args.events.now)) c.in-None.is c.in_ok-right.ensures)
