use Rattle.std.proofs.Common.{◌≡◌}
use Rattle.std.specs.List.{list_any}
use Rattle.text_lines.specs.Lines.{lines_in, lines_remaining}
use Rattle.gcg_about.specs.Encodings.{is_latin_pragma}
use Rattle.gcg_about.proofs.encodings.states_latin.Given as goal

abbrev pub invariant-loop-line : goal.invariant-loop-line
invariant-loop-line l =
    (goal.iterator-loop-line).can_next l.line-iterator ×
    (goal.iterator-loop-line).is_finite l.line-iterator ×
    list_any is_latin_pragma (lines_remaining l.line-iterator) ≡ list_any is_latin_pragma (lines_in l.text)
