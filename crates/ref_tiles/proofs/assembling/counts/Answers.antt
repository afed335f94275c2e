use Rattle.std.proofs.Common.{◌∙◌, arith}
use Rattle.ref_tiles.proofs.PartLimits.{counts_filled}
use Rattle.ref_tiles.proofs.assembling.counts.Goals as goal

pub returns-clause-counts : goal.returns-clause-counts
returns-clause-counts c =
    c.of.ensures ∙ counts_filled c.args.draft.now c.loop-kind.counts c.loop-kind.invariant.size (λ k on. c.loop-kind.invariant.filled k (omega (arith, c.loop-kind-test.false)))
