use Rattle.std.proofs.Common.{◌≡◌, ◌+◌, ◌++◌, ◌∷◌, filter, length}
use Rattle.gcg_write.specs.Normal.{text_of_lines}
use Rattle.gcg_numbers.specs.Lines.{parts_after}
use Rattle.gcg_numbers.specs.Numbers.{is_event_line}
use Rattle.repair_rewrites.specs.EventLines.{raw_lines, texts}
use Rattle.repair_rewrites.specs.Texts.{repaired_lines}
use Rattle.repair_rewrites.proofs.repaired.Repaired.push_lines.Given as goal

abbrev pub invariant-loop-cut : goal.invariant-loop-cut
invariant-loop-cut l =
    (l.number + length (filter is_event_line (l.cut.line.now ∷ parts_after l.cut.after)) ≡ length l.self.lines.now)
    × (l.out.items ++ text_of_lines (repaired_lines l.self.change.now l.self.players.now (texts l.self.lines.now) l.self.right.now l.number (l.cut.line.now ∷ parts_after l.cut.after))
    ≡ l.fn.out.items ++ text_of_lines (repaired_lines l.self.change.now l.self.players.now (texts l.self.lines.now) l.self.right.now 0 (raw_lines l.text)))

abbrev pub decreases-loop-cut : goal.decreases-loop-cut
decreases-loop-cut l = length (parts_after l.cut.after)
