use Rattle.std.proofs.Common.{◌≡◌, ◌≤◌, ◌+◌, ◌++◌, ◌∷◌, length}
use Rattle.std.specs.List.{join_with_byte}
use Rattle.gcg_numbers.specs.Lines.{parts_after}
use Rattle.repair_rewrites.specs.EventLines.{raw_lines}
use Rattle.repair_rewrites.specs.Running.{lines_without}
use Rattle.repair_rewrites.proofs.running.Rewritten.push_text.Given as goal

abbrev pub invariant-loop-cut : goal.invariant-loop-cut
invariant-loop-cut l =
    (l.number + length (l.cut.line.now ∷ parts_after l.cut.after) ≤ length (raw_lines l.text))
    × (l.out.items ++ join_with_byte 10 (lines_without l.self.slip l.self.place l.self.players.now l.self.right.now l.number (l.cut.line.now ∷ parts_after l.cut.after))
    ≡ l.fn.out.items ++ join_with_byte 10 (lines_without l.self.slip l.self.place l.self.players.now l.self.right.now 0 (raw_lines l.text)))

abbrev pub decreases-loop-cut : goal.decreases-loop-cut
decreases-loop-cut l = length (parts_after l.cut.after)
