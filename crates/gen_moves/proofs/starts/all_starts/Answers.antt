use Rattle.std.proofs.Common.{rules, arith}
use Rattle.gen_cross.proofs.Filling.{values_more}
use Rattle.gen_moves.specs.Starts.{IsStartOf}
use Rattle.gen_moves.proofs.starts.all_starts.Goals as goal

pub loop-number-preserved : goal.loop-number-preserved
loop-number-preserved c = record {
  size = search rules;
  passed = λ k d below.
      values_more (λ k s. IsStartOf c.args.across.now c.args.down.now k s) c.loop-number.starts d c.start_of.result c.loop-number.number (omega arith)
      (λ k below. c.loop-number.invariant.passed k d below) c.start_of.ensures k below;
}
