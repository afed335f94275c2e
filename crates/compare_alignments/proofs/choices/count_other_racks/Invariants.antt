use Rattle.std.proofs.Common.{◌≡◌, ◌+◌, ◌-◌, ◌≤◌}
use Rattle.compare_alignments.proofs.Merged.{chosen_from}
use Rattle.compare_alignments.proofs.choices.count_other_racks.Given as goal

abbrev pub invariant-loop-number : goal.invariant-loop-number
invariant-loop-number l =
    record { so_far : l.many + chosen_from l.choice l.number (l.end - l.number) ≡ chosen_from l.choice l.items (l.end - l.items); few : l.many ≤ l.number }
