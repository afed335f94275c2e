use Rattle.std.proofs.Common.{◌≡◌, ◌≤◌, ◌++◌, ◌∷◌, length, drop}
use Rattle.std.specs.List.{slice_split, join_with_byte}
use Rattle.text_lines.specs.Lines.{is_feed, without_mark}
use Rattle.gcg_numbers.specs.Lines.{parts_after}
use Rattle.gcg_numbers.specs.Numbers.{lines_with, mark_of}
use Rattle.gcg_numbers.proofs.writing.push_with_numbers.Given as goal

abbrev pub invariant-loop-cut : goal.invariant-loop-cut
invariant-loop-cut l =
    (l.taken ≤ length l.events)
    × (l.out.items ++ join_with_byte 10 (lines_with (drop l.taken l.events) (l.cut.line.now ∷ parts_after l.cut.after))
    ≡ (l.fn.out.items ++ mark_of l.text) ++ join_with_byte 10 (lines_with l.events (slice_split is_feed (without_mark l.text))))

abbrev pub decreases-loop-cut : goal.decreases-loop-cut
decreases-loop-cut l = length (parts_after l.cut.after)
