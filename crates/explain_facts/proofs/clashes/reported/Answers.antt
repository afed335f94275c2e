use Rattle.explain_facts.proofs.ClashLaws.{parts_next}
use Rattle.explain_facts.proofs.clashes.reported.Goals as goal

pub loop-place-preserved : goal.loop-place-preserved
loop-place-preserved c =
    parts_next c.loop-place.less.items c.args.steps.now c.push.new.self.items c.loop-place.place c.reporting.result c.index-steps-place.result c.loop-place.invariant
    c.loop-place-test.true c.index-steps-place.is c.reporting.ensures c.in_ok-push.ensures.items
