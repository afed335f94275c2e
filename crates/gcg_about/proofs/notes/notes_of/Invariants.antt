use Rattle.std.proofs.Common.{◌≡◌, ◌+◌, ◌≤◌, ◌++◌, length, map}
use Rattle.text_lines.specs.Lines.{lines_in, lines_remaining}
use Rattle.gcg_about.specs.Notes.{note_in, notes_from}
use Rattle.gcg_about.proofs.notes.notes_of.Given as goal

abbrev pub invariant-loop-line : goal.invariant-loop-line
invariant-loop-line l =
    record {
      so_far : map note_in l.notes.items ++ notes_from l.after (lines_remaining l.line-iterator) ≡ notes_from 0 (lines_in l.text);
      counted : l.after + length (lines_remaining l.line-iterator) ≤ length (lines_in l.text);
    }
