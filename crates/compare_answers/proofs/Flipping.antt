-- Only twelve items are varied.
use Rattle.std.proofs.Common.{◌≡◌, ◌≤◌, ◌+◌, ℕ, List, [], length, Option, Some, None, ap, subst, arith, sym}
use Rattle.std.specs.Prelude.{min}
use Rattle.ref_tiles.specs.declared.rulebook.Rules.{Rules}
use Rattle.compare_alignments.specs.Merging.{count_varied}
use Rattle.compare_choices.specs.declared.sheets.Sheets.{Sheets}
use Rattle.compare_choices.specs.declared.best.Best.{Best}
use Rattle.compare_choices.specs.declared.trials.Trial.{Trial}
use Rattle.compare_choices.specs.declared.comparing.Comparison.{Comparison}
use Rattle.compare_choices.specs.Comparisons.{FlipsOf, IsComparison}

few_by : (rules : Rules) (list : List (List ℕ)) (s : Sheets) (o : Option Best) (flips : List Trial) → FlipsOf rules list s o flips → length flips ≤ 12
few_by rules list s None flips none =
    let many = ap (λ (xs : List Trial). length xs) none in
    omega (arith, many)
few_by rules list s (Some b) flips is =
    let many = is.as_many in
    omega (arith, many)

pub few_flips : (rules : Rules) (list : List (List ℕ)) (s : Sheets) (c : Comparison) → IsComparison rules list s c → length c.flips.items ≤ 12
few_flips rules list s c is = few_by rules list s c.find.best c.flips.items is.flips
