use Rattle.repair_single.specs.Weighers.{wrong_by}
use Rattle.repair_single.proofs.FirstOnes.{reported_with}
use Rattle.repair_single.proofs.finding.repairs_by.Goals as goal

pub returns-clause-reported : goal.returns-clause-reported
returns-clause-reported c =
    reported_with (wrong_by c.args.weigher.now) c.args.rules.now c.args.list.now c.args.events.now c.args.plays.now c.args.below c.args.most c.in_ok-all.all.found.items c.first_repairs.result
    c.in_ok-all.ensures.found c.first_repairs.ensures.reported
