-- Laws of the definitions that contracts cite.
use Rattle.std.specs.Prelude.{ℕ, List, take}
use Rattle.ref_tiles.specs.declared.rulebook.Rules.{Rules}
use Rattle.deal_steps.specs.declared.steps.Step.{Step}
use Rattle.deal_steps.specs.declared.deals.Held.{Held}
use Rattle.deal_steps.specs.Fitting.{Fits}
use Rattle.deal_cuts.specs.Cutting.{HasNoDeal}

-- if racks fit the steps of a game, the first of them fit the first steps
abbrev pub FrontsFit : Type 0
FrontsFit = (rules : Rules) (steps : List Step) (deal : List Held) (n : ℕ) → Fits rules steps deal → Fits rules (take n steps) (take n deal)

-- so if no racks fit the first steps, none fit all of them
abbrev pub FrontsDecide : Type 0
FrontsDecide = (rules : Rules) (steps : List Step) (n : ℕ) → HasNoDeal rules (take n steps) → HasNoDeal rules steps
