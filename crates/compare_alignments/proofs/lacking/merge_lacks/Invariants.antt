use Rattle.std.proofs.Common.{◌≡◌, ◌++◌, ◌≤◌, drop}
use Rattle.compare_alignments.specs.Lacking.{lacks_from, merged_lacks}
use Rattle.compare_alignments.proofs.lacking.merge_lacks.Given as goal

abbrev pub invariant-loop-pair : goal.invariant-loop-pair
invariant-loop-pair l =
    record {
      so_far : l.all.items ++ lacks_from l.sheet l.choice l.number l.first l.second l.lacks (drop l.pair-index l.pairs) ≡ merged_lacks l.sheet l.choice l.first l.second l.lacks l.pairs;
      few : l.number ≤ l.pair-index;
    }
