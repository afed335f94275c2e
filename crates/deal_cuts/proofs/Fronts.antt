-- If racks fit the steps of a game, the first of them fit the first steps.
use Rattle.std.proofs.Common.{ℕ, zero, suc, List, [], ◌∷◌, take}
use Rattle.ref_tiles.specs.declared.rulebook.Rules.{Rules}
use Rattle.deal_steps.specs.declared.steps.Step.{Step}
use Rattle.deal_steps.specs.declared.deals.Held.{Held}
use Rattle.deal_steps.specs.Fitting.{FollowsTo}
use Rattle.deal_cuts.specs.Laws.{FrontsFit, FrontsDecide}

-- a front of racks that follow follows
follows_front : (rules : Rules) (s : Step) (held : Held) (rest : List Held) (n : ℕ) → FollowsTo rules s held rest → FollowsTo rules s held (take n rest)
follows_front rules s held rest zero follows = tt
follows_front rules s held [] (suc n) follows = tt
follows_front rules s held (next ∷ rest) (suc n) follows = follows

pub fronts_fit : FrontsFit
fronts_fit rules steps deal zero fits = tt
fronts_fit rules [] [] (suc n) fits = tt
fronts_fit rules [] (held ∷ rest) (suc n) fits = absurd fits
fronts_fit rules (s ∷ steps) [] (suc n) fits = absurd fits
fronts_fit rules (s ∷ steps) (held ∷ rest) (suc n) fits =
    (fits.0, follows_front rules s held rest n fits.1, fronts_fit rules steps rest n fits.2)

pub fronts_decide : FrontsDecide
fronts_decide rules steps n none deal fits = none (take n deal) (fronts_fit rules steps deal n fits)
