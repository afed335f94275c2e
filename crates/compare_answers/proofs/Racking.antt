-- A pair that the first sheet does not have has no racks that differ.
use Rattle.std.proofs.Common.{◌≡◌, Option, Some, None, subst}
use Rattle.gcg_read.specs.declared.events.Event.{Event}
use Rattle.compare_alignments.specs.declared.pairs.Pair.{Pair}
use Rattle.compare_alignments.specs.Merging.{line_at}
use Rattle.compare_choices.specs.declared.sheets.Sheets.{Sheets}
use Rattle.compare_choices.specs.Results.{OtherRacksOf, HaveOtherRacks}

pub same_without_line : (s : Sheets) (p : Pair) → line_at s.first.events p.first ≡ None → HaveOtherRacks s p → ⊥
same_without_line s p none racks = subst (λ (o : Option Event). OtherRacksOf o (line_at s.second.events p.second)) none racks
