use Rattle.std.proofs.Common.{◌≡◌, ◌++◌, ◌≤◌, ◌+◌, drop}
use Rattle.compare_alignments.specs.Merging.{merged_from, merged}
use Rattle.compare_alignments.proofs.merging.merge.Given as goal

abbrev pub invariant-loop-pair : goal.invariant-loop-pair
invariant-loop-pair l =
    record {
      so_far : l.events ++ merged_from l.owner l.whose l.choice l.number l.rack l.first l.second (drop l.pair-index l.pairs) ≡ merged l.owner l.whose l.choice l.first l.second l.pairs;
      few : l.number ≤ l.pair-index;
      few_racks : l.rack ≤ l.items + l.pair-index;
    }
