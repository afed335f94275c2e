use Rattle.std.proofs.Common.{arith}
use Rattle.game_walk.specs.Numbers.{renumbered}
use Rattle.game_walk.proofs.WrongRows.{wrong_more, lines_wrong, all_totals}
use Rattle.game_walk.proofs.wrong_lines.push_lines.Goals as goal

pub loop-place-preserved : goal.loop-place-preserved
loop-place-preserved c =
    record {
      wrong = wrong_more c.args.stop (renumbered c.args.right.now c.args.numbers.now) c.args.right.now c.loop-place.place c.args.wrong.now.items c.loop-place.wrong.items c.push_wrong.new.wrong.items
          c.loop-place.invariant.wrong c.in_ok-push_wrong.ensures.wrong;
      totals = c.in_ok-push_wrong.ensures.totals;
    }

pub returns-clause-wrong : goal.returns-clause-wrong
returns-clause-wrong c =
    lines_wrong c.args.stop c.args.right.now c.args.numbers.now c.loop-place.place c.args.wrong.now.items c.loop-place.wrong.items c.loop-place.invariant.wrong (omega arith)

pub returns-clause-totals : goal.returns-clause-totals
returns-clause-totals c = all_totals c.args.right.now c.args.numbers.now c.loop-place.place c.loop-place.totals c.loop-place.invariant.totals (omega arith)
