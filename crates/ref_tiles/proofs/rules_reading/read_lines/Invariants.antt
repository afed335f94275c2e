use Rattle.text_lines.specs.Lines.{lines_in, lines_remaining}
use Rattle.ref_tiles.proofs.RulesSteps.{Progress}
use Rattle.ref_tiles.proofs.rules_reading.read_lines.Given as goal

abbrev pub invariant-loop-line : goal.invariant-loop-line
invariant-loop-line l = Progress (lines_in l.text) l.draft l.number (lines_remaining l.line-iterator)
