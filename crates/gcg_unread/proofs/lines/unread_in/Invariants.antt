use Rattle.std.proofs.Common.{◌≡◌, ◌+◌, ◌++◌, false, length}
use Rattle.text_lines.specs.Lines.{lines_in, lines_remaining}
use Rattle.gcg_unread.specs.Lines.{unread_from}
use Rattle.gcg_unread.proofs.lines.unread_in.Given as goal

abbrev pub invariant-loop-line : goal.invariant-loop-line
invariant-loop-line l =
    record {
      so_far : l.found.items ++ unread_from l.in_note (l.number + 1) (lines_remaining l.line-iterator) ≡ unread_from false 1 (lines_in l.text);
      counted : l.number + length (lines_remaining l.line-iterator) ≡ length (lines_in l.text);
    }
