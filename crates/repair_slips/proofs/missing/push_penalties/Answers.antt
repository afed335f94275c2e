use Rattle.repair_slips.specs.Each.{for_next}
use Rattle.repair_slips.specs.MissingLines.{missing_penalty}
use Rattle.repair_slips.proofs.Series.{begun, added}
use Rattle.repair_slips.proofs.missing.push_penalties.Goals as goal

pub loop-steps-init : goal.loop-steps-init
loop-steps-init c = begun (for_next (missing_penalty c.args.rules.now c.args.early c.args.player)) c.args.slips.now.items

pub loop-steps-preserved : goal.loop-steps-preserved
loop-steps-preserved c =
    added (for_next (missing_penalty c.args.rules.now c.args.early c.args.player)) c.loop-steps.steps c.args.slips.now.items c.loop-steps.slips.items c.push_penalty.new.slips.items c.loop-steps.invariant c.in_ok-push_penalty.ensures
