use Rattle.std.proofs.Common.{◌≡◌, ◌+◌, ◌++◌, length}
use Rattle.text_lines.specs.Lines.{lines_in, lines_remaining}
use Rattle.gcg_unread.specs.Faulty.{faulty_from}
use Rattle.gcg_unread.proofs.faulty.faulty_in.Given as goal

abbrev pub invariant-loop-line : goal.invariant-loop-line
invariant-loop-line l =
    record {
      so_far : l.faults.items ++ faulty_from (l.number + 1) (lines_remaining l.line-iterator) ≡ faulty_from 1 (lines_in l.text);
      counted : l.number + length (lines_remaining l.line-iterator) ≡ length (lines_in l.text);
    }
