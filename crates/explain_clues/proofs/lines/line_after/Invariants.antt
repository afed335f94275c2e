use Rattle.std.proofs.Common.{◌≡◌, drop}
use Rattle.text_lines.specs.Lines.{without_mark, lines_in, lines_after}
use Rattle.explain_clues.proofs.lines.line_after.Given as goal

abbrev pub invariant-loop-k : goal.invariant-loop-k
invariant-loop-k l = lines_after l.remaining ≡ drop l.k (lines_in (without_mark l.text))
