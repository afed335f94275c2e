use Rattle.std.proofs.Common.{◌+◌}
use Rattle.compare_alignments.proofs.Merged.{chosen_more, chosen_few}
use Rattle.compare_alignments.proofs.choices.count_other_racks.Goals as goal

pub loop-number-preserved : goal.loop-number-preserved
loop-number-preserved c =
    record {
      so_far = chosen_more c.args.choice c.loop-number.many c.more_chosen-many.result c.loop-number.number (c.count_items-items.result + c.count_racks.result) _ c.loop-number-test.true c.more_chosen-many.ensures c.loop-number.invariant.so_far;
      few = chosen_few c.args.choice c.loop-number.many c.more_chosen-many.result c.loop-number.number c.more_chosen-many.ensures c.loop-number.invariant.few;
    }
