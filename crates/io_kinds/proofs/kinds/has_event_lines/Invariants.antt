use Rattle.std.proofs.Common.{◌≡◌}
use Rattle.std.specs.List.{list_any}
use Rattle.text_lines.specs.Lines.{lines_in, lines_remaining}
use Rattle.io_kinds.specs.Kinds.{is_event}
use Rattle.io_kinds.proofs.kinds.has_event_lines.Given as goal

abbrev pub invariant-loop-line : goal.invariant-loop-line
invariant-loop-line l =
    (goal.iterator-loop-line).can_next l.line-iterator ×
    (goal.iterator-loop-line).is_finite l.line-iterator ×
    list_any is_event (lines_remaining l.line-iterator) ≡ list_any is_event (lines_in l.text)
