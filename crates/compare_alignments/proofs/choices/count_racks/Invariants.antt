use Rattle.std.proofs.Common.{◌≡◌, ◌+◌, ◌≤◌, drop, length}
use Rattle.compare_alignments.specs.Merging.{rack_items}
use Rattle.compare_alignments.proofs.choices.count_racks.Given as goal

abbrev pub invariant-loop-pair : goal.invariant-loop-pair
invariant-loop-pair l = record { so_far : l.many + length (rack_items (drop l.pair-index l.pairs)) ≡ length (rack_items l.pairs); few : l.many ≤ l.pair-index }
