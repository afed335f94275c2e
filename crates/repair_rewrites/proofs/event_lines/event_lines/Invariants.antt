use Rattle.std.proofs.Common.{◌≡◌, ◌++◌, ◌∷◌, filter, length}
use Rattle.gcg_numbers.specs.Lines.{parts_after}
use Rattle.gcg_numbers.specs.Numbers.{is_event_line}
use Rattle.repair_rewrites.specs.EventLines.{event_lines, texts}
use Rattle.repair_rewrites.proofs.event_lines.event_lines.Given as goal

abbrev pub invariant-loop-cut : goal.invariant-loop-cut
invariant-loop-cut l = texts l.lines.items ++ filter is_event_line (l.cut.line.now ∷ parts_after l.cut.after) ≡ event_lines l.text

abbrev pub decreases-loop-cut : goal.decreases-loop-cut
decreases-loop-cut l = length (parts_after l.cut.after)
