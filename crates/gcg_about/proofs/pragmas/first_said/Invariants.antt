use Rattle.std.proofs.Common.{◌≡◌}
use Rattle.text_lines.specs.Lines.{lines_in, lines_remaining}
use Rattle.gcg_about.specs.Pragmas.{first_said}
use Rattle.gcg_about.proofs.pragmas.first_said.Given as goal

abbrev pub invariant-loop-line : goal.invariant-loop-line
invariant-loop-line l = first_said l.word (lines_remaining l.line-iterator) ≡ first_said l.word (lines_in l.text)
