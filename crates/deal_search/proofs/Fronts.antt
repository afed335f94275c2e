-- What holds for the first steps of a front holds for the first steps.
use Rattle.std.proofs.Common.{◌≡◌, ℕ, ◌≤◌, List, length, take, ap, ◌∙◌, subst, arith}
use Rattle.std.proofs.lemmas.List.{take-take, length-take}
use Rattle.ref_tiles.specs.declared.rulebook.Rules.{Rules}
use Rattle.deal_steps.specs.declared.steps.Step.{Step}
use Rattle.deal_cuts.specs.Cutting.{HasNoDeal}
use Rattle.deal_steps.specs.declared.deals.Held.{Held}
use Rattle.deal_steps.specs.Fitting.{Fits}
use Rattle.deal_cuts.specs.declared.earlier.Earlier.TheVariants as known
use Rattle.deal_search.specs.Settling.{EndsDeals, IsKnownOf}

pub ends_in_front : (rules : Rules) (steps front : List Step) (m n : ℕ) → front ≡ take m steps → EndsDeals rules front n → EndsDeals rules steps n
ends_in_front rules steps front m n is ends =
    let long = length-take m steps in
    let same = ap (λ (xs : List Step). length xs) is in
    let within = ends.within in
    let few : n ≤ m = omega (arith, long, same, within) in
    let fronts : take n front ≡ take n steps = ap (λ (xs : List Step). take n xs) is ∙ take-take n m steps few in
    record {
      some = ends.some;
      within = omega (arith, long, same, within);
      none = subst (λ (xs : List Step). HasNoDeal rules xs) fronts ends.none;
    }

-- racks that fit a front are known for that number of first steps
pub deals_in_front : (rules : Rules) (steps front : List Step) (n : ℕ) (deal : List Held) → front ≡ take n steps → Fits rules front deal → IsKnownOf rules steps n known.Dealt
deals_in_front rules steps front n deal is fit = record { racks = deal; fit = subst (λ (xs : List Step). Fits rules xs deal) is fit }
