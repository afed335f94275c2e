use Rattle.std.proofs.Common.{◌+◌, ◌-◌, ◌/◌, arith}
use Rattle.lex_check.proofs.Stretches.{lower_part, upper_part}
use Rattle.lex_check.proofs.sorted.search_from.Goals as goal

pub loop-low-preserved-then-label_at-label : goal.loop-low-preserved-then-label_at-label
loop-low-preserved-then-label_at-label c =
    let mid = c.loop-low.low + (c.loop-low.high - c.loop-low.low) / 2 in
    record {
      from = omega arith;
      order = omega arith;
      to = omega arith;
      before = lower_part c.args.paths.now c.args.stretch c.args.label mid c.requires (omega arith) (omega arith);
      following = c.loop-low.invariant.following;
    }

pub loop-low-preserved : goal.loop-low-preserved
loop-low-preserved c =
    let mid = c.loop-low.low + (c.loop-low.high - c.loop-low.low) / 2 in
    record {
      from = omega arith;
      order = omega arith;
      to = omega arith;
      before = c.loop-low.invariant.before;
      following = upper_part c.args.paths.now c.args.stretch c.args.label mid c.requires (omega arith) (omega arith);
    }
