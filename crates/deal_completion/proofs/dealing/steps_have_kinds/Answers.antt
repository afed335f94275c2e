use Rattle.std.proofs.Common.{arith}
use Rattle.deal_completion.proofs.DealLoops.{kinds_more, kinds_all}
use Rattle.deal_completion.proofs.dealing.steps_have_kinds.Goals as goal

pub loop-step-init : goal.loop-step-init
loop-step-init c = λ are. are

pub loop-step-preserved : goal.loop-step-preserved
loop-step-preserved c =
    kinds_more c.args.steps.now c.loop-step.step-index c.step-item.result (omega arith) c.step-item.is c.step_has_kinds.ensures c.loop-step.invariant

pub returns : goal.returns
returns c = kinds_all c.args.steps.now c.loop-step.step-index (omega arith) c.loop-step.invariant
