-- Laws of racks that fit.
use Rattle.std.proofs.Common.{◌≡◌, ℕ, suc, ◌+◌, ◌<◌, ◌≤◌, List, [], ◌∷◌, length, get_or, drop, drop-cons, add-one, refl, sym, ap, ◌∙◌}
use Rattle.std.proofs.Math.ListN.{drop_of_length-le}
use Rattle.ref_tiles.specs.declared.rulebook.Rules.{Rules}
use Rattle.deal_steps.specs.declared.steps.Step.{Step}
use Rattle.deal_steps.specs.declared.deals.Held.{Held}
use Rattle.deal_steps.specs.Fitting.{FitsAt, FollowsTo, Fits}

-- there is a pair of racks for each step
pub length_of_fit : (rules : Rules) (steps : List Step) (deal : List Held) → Fits rules steps deal → length steps ≡ length deal
length_of_fit rules [] [] fits = refl
length_of_fit rules [] (held ∷ rest) fits = absurd fits
length_of_fit rules (s ∷ steps) [] fits = absurd fits
length_of_fit rules (s ∷ steps) (held ∷ rest) fits = ap suc (length_of_fit rules steps rest fits.2)

-- the racks from a place on fit the steps from there on
abbrev pub FitsFrom : Rules → List Step → List Held → ℕ → Type 0
FitsFrom rules steps deal i = Fits rules (drop i steps) (drop i deal)

-- one step is looked at
pub fits_more : (rules : Rules) (steps : List Step) (deal : List Held) (i : ℕ) (s : Step) (held : Held) → i < length steps → i < length deal
    → s ≡ get_or steps i s → held ≡ get_or deal i held
    → FitsFrom rules steps deal i ≡ (FitsAt rules s held × FollowsTo rules s held (drop (i + 1) deal) × FitsFrom rules steps deal (i + 1))
fits_more rules steps deal i s held inside inside2 is is2 =
    let one : drop i steps ≡ s ∷ drop (suc i) steps = drop-cons steps i s inside ∙ ap (λ (x : Step). x ∷ drop (suc i) steps) (sym is) in
    let two : drop i deal ≡ held ∷ drop (suc i) deal = drop-cons deal i held inside2 ∙ ap (λ (x : Held). x ∷ drop (suc i) deal) (sym is2) in
    rw (add-one i) (rw one (rw two refl))

-- all steps are looked at
pub fits_all : (rules : Rules) (steps : List Step) (deal : List Held) (i : ℕ) → length steps ≤ i → length deal ≤ i → FitsFrom rules steps deal i
fits_all rules steps deal i past past2 = rw (drop_of_length-le steps past) (rw (drop_of_length-le deal past2) tt)
