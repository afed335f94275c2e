use Rattle.std.proofs.Common.{◌≡◌, ◌≤◌, length}
use Rattle.std.specs.List.{flat_map, range_with_len}
use Rattle.repair_answers.specs.BadRecords.{lines_at}
use Rattle.repair_answers.proofs.bad_records.all_lines.Given as goal

abbrev pub invariant-loop-number : goal.invariant-loop-number
invariant-loop-number l = l.lines.items ≡ flat_map (lines_at l.found) (range_with_len 0 l.number)
