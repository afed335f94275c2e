use Rattle.std.proofs.Common.{get_or, None, false, arith}
use Rattle.compare_alignments.specs.declared.pairs.Pair.{Pair}
use Rattle.compare_alignments.proofs.Merged.{rack_more, racks_all, rack_few}
use Rattle.compare_alignments.proofs.choices.count_racks.Goals as goal

abbrev no_pair : Pair
no_pair = record { first = None; second = None; agrees = false; other_racks = false }

pub loop-pair-preserved : goal.loop-pair-preserved
loop-pair-preserved c =
    record {
      so_far = rack_more c.loop-pair.many c.next_rack-many.result c.args.pairs.now c.loop-pair.pair-index no_pair _ c.loop-pair-test.true c.next_rack-many.ensures c.loop-pair.invariant.so_far;
      few = rack_few c.loop-pair.many c.next_rack-many.result c.loop-pair.pair-index (get_or c.args.pairs.now c.loop-pair.pair-index no_pair) c.next_rack-many.ensures c.loop-pair.invariant.few;
    }

pub returns-clause-many : goal.returns-clause-many
returns-clause-many c = racks_all c.loop-pair.many c.args.pairs.now c.loop-pair.pair-index _ (omega arith) c.loop-pair.invariant.so_far
