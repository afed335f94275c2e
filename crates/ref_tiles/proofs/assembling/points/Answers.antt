use Rattle.std.proofs.Common.{arith}
use Rattle.ref_tiles.proofs.PartLimits.{points_filled}
use Rattle.ref_tiles.proofs.assembling.points.Goals as goal

pub returns-clause-points : goal.returns-clause-points
returns-clause-points c =
    points_filled c.args.draft.now c.loop-letter.points c.loop-letter.invariant.size (λ k on. c.loop-letter.invariant.filled k (omega (arith, c.loop-letter-test.false)))
