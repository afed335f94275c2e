use Rattle.std.proofs.Common.{◌≡◌, ◌++◌}
use Rattle.std.specs.List.{flat_map}
use Rattle.text_lines.specs.Lines.{lines_of, lines_remaining}
use Rattle.gcg_drafts.specs.Texts.{missing_on}
use Rattle.gcg_drafts.proofs.noting.missing_in.Given as goal

abbrev pub invariant-loop-line : goal.invariant-loop-line
invariant-loop-line l = l.lacks.items ++ flat_map missing_on (lines_remaining l.line-iterator) ≡ flat_map missing_on (lines_of l.text)
