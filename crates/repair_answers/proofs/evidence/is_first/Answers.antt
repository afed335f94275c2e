use Rattle.std.proofs.Common.{arith}
use Rattle.repair_answers.proofs.Grouped.{none_unlike, one_unlike, like_before, all_unlike}
use Rattle.repair_answers.proofs.evidence.is_first.Goals as goal

pub loop-before-init : goal.loop-before-init
loop-before-init g c = record { unlike = none_unlike g.T.Lined.like c.args.items.now c.args.index }

pub loop-before-preserved : goal.loop-before-preserved
loop-before-preserved g c =
    let unlike = c.if-are_like.false in
    record { unlike = one_unlike g.T.Lined.like c.args.items.now c.args.index c.loop-before.before c.loop-before.invariant.unlike cc }

pub returns-then-are_like : goal.returns-then-are_like
returns-then-are_like g c =
    let like = c.if-are_like.true in
    like_before g.T.Lined.like c.args.items.now c.args.index c.loop-before.before c.loop-before-test.true cc

pub returns : goal.returns
returns g c = all_unlike g.T.Lined.like c.args.items.now c.args.index c.loop-before.before c.loop-before.invariant.unlike (omega arith)
