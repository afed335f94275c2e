use Rattle.std.proofs.Common.{◌≡◌, ◌+◌, ◌≤◌, drop, length}
use Rattle.compare_alignments.specs.Merging.{items_of}
use Rattle.compare_alignments.proofs.choices.count_items.Given as goal

abbrev pub invariant-loop-pair : goal.invariant-loop-pair
invariant-loop-pair l = record { so_far : l.many + length (items_of (drop l.pair-index l.pairs)) ≡ length (items_of l.pairs); few : l.many ≤ l.pair-index }
