use Rattle.text_lines.specs.Lines.{lines_in, lines_remaining}
use Rattle.lex_list.proofs.Steps.{Progress}
use Rattle.lex_list.proofs.reading.read_lines.Given as goal

abbrev pub invariant-loop-line : goal.invariant-loop-line
invariant-loop-line l = Progress (lines_in l.text) l.words l.number (lines_remaining l.line-iterator)
