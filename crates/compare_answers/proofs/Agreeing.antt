-- What the cost of a choice says of what is wrong with it.
use Rattle.std.proofs.Common.{◌≡◌, ℕ, ◌*◌, arith, List}
use Rattle.ref_tiles.specs.declared.rulebook.Rules.{Rules}
use Rattle.compare_choices.specs.declared.sheets.Sheets.{Sheets}
use Rattle.compare_choices.specs.declared.best.Best.{Best}
use Rattle.compare_choices.specs.declared.comparing.Comparison.{Comparison}
use Rattle.compare_choices.specs.Comparisons.{IsComparison}
use Rattle.compare_choices.specs.Choices.{cost_of}
use Rattle.compare_choices.specs.Finds.{HasBest}
use Rattle.compare_answers.specs.Agreements.{HasItsCost, BestHasItsCost, NothingWrong}
use Rattle.std.specs.Prelude.{Option, Some, None}

pub nothing_wrong : (s : Sheets) (b : Best) → HasItsCost s b → b.cost ≡ 3 * b.unlisted → NothingWrong s b
nothing_wrong s b cost same = record { numbers = omega (arith, cost, same); lines = omega (arith, cost, same); racks = omega (arith, cost, same) }

pub costs_its_words : (s : Sheets) (b : Best) → HasItsCost s b → NothingWrong s b → b.cost ≡ 3 * b.unlisted
costs_its_words s b cost none =
    let numbers = none.numbers in
    let lines = none.lines in
    let racks = none.racks in
    omega (arith, cost, numbers, lines, racks)

best_by : (rules : Rules) (list : List (List ℕ)) (s : Sheets) (end : ℕ) (o : Option Best) → HasBest rules list s end o → BestHasItsCost s o
unfolding cost_of
best_by rules list s end None is = tt
best_by rules list s end (Some b) is =
    let costs = is.is.costs in
    let unlisted = is.is.unlisted in
    rw unlisted costs

-- the best of all choices has its cost
pub best_has_cost : (rules : Rules) (list : List (List ℕ)) (s : Sheets) (c : Comparison) → IsComparison rules list s c → BestHasItsCost s c.find.best
best_has_cost rules list s c is = best_by rules list s _ c.find.best is.found.best
