use Rattle.std.proofs.Common.{subst}
use Rattle.game_corrections.specs.Corrections.{HavePoints}
use Rattle.repair_single.specs.Trying.{IsWritable, HaveNone}
use Rattle.repair_single.proofs.correcting.corrected.Goals as goal

pub returns-then-not-correct : goal.returns-then-not-correct
returns-then-not-correct c = subst (HaveNone c.args.rules.now c.args.list.now) c.in_ok-right.ensures (c.correct.ensures.none c.if-not-correct.true)

pub returns : goal.returns
returns c =
    subst (λ changed. IsWritable c.args.rules.now c.args.list.now changed c.correct.new.events) c.in_ok-right.ensures
    (record { correction = c.correct.ensures.right c.if-not-correct.false; points = subst HavePoints c.as_slice.ensures c.law_of_points.ensures })
