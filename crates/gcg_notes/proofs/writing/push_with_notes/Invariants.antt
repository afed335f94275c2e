use Rattle.std.proofs.Common.{◌≡◌, ◌++◌, ◌∷◌, length}
use Rattle.std.specs.List.{join_with_byte}
use Rattle.text_lines.specs.Lines.{without_mark}
use Rattle.gcg_numbers.specs.Lines.{parts_after}
use Rattle.gcg_numbers.specs.Numbers.{mark_of}
use Rattle.gcg_notes.specs.Notes.{raw_lines, with_notes}
use Rattle.gcg_notes.proofs.writing.push_with_notes.Given as goal

abbrev pub invariant-loop-cut : goal.invariant-loop-cut
invariant-loop-cut l =
    l.out.items ++ join_with_byte 10 (with_notes (parts_after l.remaining) (l.cut.line.now ∷ parts_after l.cut.after))
    ≡ (l.fn.out.items ++ mark_of l.text) ++ join_with_byte 10 (with_notes (raw_lines l.notes) (raw_lines (without_mark l.text)))

abbrev pub decreases-loop-cut : goal.decreases-loop-cut
decreases-loop-cut l = length (parts_after l.cut.after)
