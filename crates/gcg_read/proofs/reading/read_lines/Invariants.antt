use Rattle.std.proofs.Common.{◌≡◌, ◌+◌, length}
use Rattle.text_lines.specs.Lines.{lines_in, lines_remaining}
use Rattle.gcg_read.specs.Records.{no_record, record_from}
use Rattle.gcg_read.proofs.reading.read_lines.Given as goal

abbrev pub invariant-loop-line : goal.invariant-loop-line
invariant-loop-line l =
    record {
      so_far : record_from l.record (l.number + 1) (lines_remaining l.line-iterator) ≡ record_from no_record 1 (lines_in l.text);
      counted : l.number + length (lines_remaining l.line-iterator) ≡ length (lines_in l.text);
    }
