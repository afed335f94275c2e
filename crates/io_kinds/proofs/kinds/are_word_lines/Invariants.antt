use Rattle.std.proofs.Common.{◌≡◌}
use Rattle.std.specs.List.{list_all}
use Rattle.text_lines.specs.Lines.{lines_in, lines_remaining}
use Rattle.io_kinds.specs.Kinds.{is_word_line}
use Rattle.io_kinds.proofs.kinds.are_word_lines.Given as goal

abbrev pub invariant-loop-line : goal.invariant-loop-line
invariant-loop-line l =
    (goal.iterator-loop-line).can_next l.line-iterator ×
    (goal.iterator-loop-line).is_finite l.line-iterator ×
    list_all is_word_line (lines_remaining l.line-iterator) ≡ list_all is_word_line (lines_in l.text)
