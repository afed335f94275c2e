use Rattle.std.proofs.Common.{get_or, None, false, arith}
use Rattle.compare_alignments.specs.declared.pairs.Pair.{Pair}
use Rattle.compare_alignments.proofs.Merged.{item_few}
use Rattle.compare_alignments.proofs.MergedLacks.{lacks_more, lacks_all}
use Rattle.compare_alignments.proofs.lacking.merge_lacks.Goals as goal

abbrev no_pair : Pair
no_pair = record { first = None; second = None; agrees = false; other_racks = false }

pub loop-pair-preserved : goal.loop-pair-preserved
loop-pair-preserved c =
    record {
      so_far = lacks_more c.args.sheet c.args.choice c.loop-pair.number c.next_item-number.result c.args.first.now c.args.second.now c.args.lacks.now c.args.pairs.now c.loop-pair.pair-index no_pair
          c.loop-pair.all.items c.push_taken.new.all.items _ c.loop-pair-test.true c.next_item-number.ensures c.in_ok-push_taken.ensures c.loop-pair.invariant.so_far;
      few = item_few c.loop-pair.number c.next_item-number.result c.loop-pair.pair-index (get_or c.args.pairs.now c.loop-pair.pair-index no_pair) c.next_item-number.ensures c.loop-pair.invariant.few;
    }

pub returns : goal.returns
returns c =
    lacks_all c.args.sheet c.args.choice c.loop-pair.number c.args.first.now c.args.second.now c.args.lacks.now c.args.pairs.now c.loop-pair.pair-index c.loop-pair.all.items _ (omega arith) c.loop-pair.invariant.so_far
