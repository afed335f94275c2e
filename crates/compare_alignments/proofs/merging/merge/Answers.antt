use Rattle.std.proofs.Common.{get_or, None, false, arith}
use Rattle.compare_alignments.specs.declared.pairs.Pair.{Pair}
use Rattle.compare_alignments.proofs.Merged.{pair_more, pairs_all, item_few, racks_few}
use Rattle.compare_alignments.proofs.merging.merge.Goals as goal

abbrev no_pair : Pair
no_pair = record { first = None; second = None; agrees = false; other_racks = false }

pub loop-pair-preserved : goal.loop-pair-preserved
loop-pair-preserved c =
    record {
      so_far = pair_more c.args.owner c.args.whose c.args.choice c.loop-pair.number c.next_item-number.result c.loop-pair.rack c.next_rack-rack.result c.args.first.now c.args.second.now c.args.pairs.now c.loop-pair.pair-index no_pair
          c.loop-pair.events c.push_pair.new.events _ c.loop-pair-test.true c.next_item-number.ensures c.next_rack-rack.ensures c.in_ok-push_pair.ensures c.loop-pair.invariant.so_far;
      few = item_few c.loop-pair.number c.next_item-number.result c.loop-pair.pair-index (get_or c.args.pairs.now c.loop-pair.pair-index no_pair) c.next_item-number.ensures c.loop-pair.invariant.few;
      few_racks = racks_few c.loop-pair.rack c.next_rack-rack.result c.count_items-items.result c.loop-pair.pair-index (get_or c.args.pairs.now c.loop-pair.pair-index no_pair) c.next_rack-rack.ensures c.loop-pair.invariant.few_racks;
    }

pub returns : goal.returns
returns c =
    pairs_all c.args.owner c.args.whose c.args.choice c.loop-pair.number c.loop-pair.rack c.args.first.now c.args.second.now c.args.pairs.now c.loop-pair.pair-index c.loop-pair.events _ (omega arith) c.loop-pair.invariant.so_far
