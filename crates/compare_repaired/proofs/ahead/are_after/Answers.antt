use Rattle.compare_repaired.specs.Repaired.{IsAfter}
use Rattle.compare_repaired.proofs.Nexts.{next_all}
use Rattle.compare_repaired.proofs.ahead.are_after.Goals as goal

pub loop-other-preserved : goal.loop-other-preserved
loop-other-preserved c =
    record {
      following = next_all (IsAfter c.args.best.now) c.args.reported.now c.loop-other.other-index c.other-item.result c.loop-other.invariant.following c.loop-other-test.true c.other-item.is
          (c.is_after.ensures.0 c.if-not-is_after.false);
    }
