-- The loops over steps and kinds that make a deal.
use Rattle.std.proofs.Common.{◌≡◌, ℕ, suc, ◌+◌, ◌-◌, ◌<◌, ◌≤◌, Bool, true, ◌&&◌, List, ◌∷◌, drop, length, get_or, leb, sym, ap, ◌∙◌, subst, arith}
use Rattle.std.specs.List.{list_all, range_with_len}
use Rattle.std.proofs.lemmas.Bool.{le-leb}
use Rattle.std.proofs.lemmas.List.{drop_more, drop_all}
use Rattle.ref_tiles.specs.declared.rulebook.Rules.{Rules}
use Rattle.deal_steps.specs.Runs.{HasKinds, HaveKinds}
use Rattle.deal_steps.specs.declared.steps.Step.{Step}
use Rattle.deal_steps.specs.declared.deals.Held.{Held}
use Rattle.deal_completion.specs.declared.hands.Hands.{Hands}
use Rattle.deal_completion.proofs.DealStates.{IsDealing}

-- ---- whether all kinds pass a test

all_step : (p : ℕ → Bool) (k : ℕ) → k < 27 → list_all p (range_with_len k (27 - k)) ≡ (p k && list_all p (range_with_len (k + 1) (27 - (k + 1))))
all_step p k below =
    let next : 27 - k ≡ suc (27 - (k + 1)) = omega arith in
    ap (λ (n : ℕ). list_all p (range_with_len k n)) next

pub none_above : (f g : ℕ → ℕ) (k : ℕ) → k < 27 → f k ≤ g k
    → list_all (λ j. leb (f j) (g j)) (range_with_len (k + 1) (27 - (k + 1))) ≡ list_all (λ j. leb (f j) (g j)) (range_with_len k (27 - k))
none_above f g k below few =
    let passes : leb (f k) (g k) ≡ true = le-leb (f k) (g k) few in
    sym (all_step (λ j. leb (f j) (g j)) k below
    ∙ ap (λ (b : Bool). b && list_all (λ j. leb (f j) (g j)) (range_with_len (k + 1) (27 - (k + 1)))) passes)

pub all_passed : (p : ℕ → Bool) (k : ℕ) → 27 ≤ k → true ≡ list_all p (range_with_len k (27 - k))
all_passed p k past =
    let none : 27 - k ≡ 0 = omega arith in
    sym (ap (λ (n : ℕ). list_all p (range_with_len k n)) none)

-- ---- the step at a place

pub step_at : (steps : List Step) (i : ℕ) (s : Step) → i < length steps → s ≡ get_or steps i s → drop i steps ≡ s ∷ drop (i + 1) steps
step_at steps i s within is = drop_more steps i s within ∙ ap (λ (x : Step). x ∷ drop (i + 1) steps) (sym is)

pub kinds_more : (steps : List Step) (i : ℕ) (s : Step) → i < length steps → s ≡ get_or steps i s → HasKinds s.act → (HaveKinds (drop i steps) → HaveKinds steps)
    → HaveKinds (drop (i + 1) steps) → HaveKinds steps
kinds_more steps i s within is here before later =
    before (subst HaveKinds (sym (step_at steps i s within is)) (here, later))

pub kinds_all : (steps : List Step) (i : ℕ) → length steps ≤ i → (HaveKinds (drop i steps) → HaveKinds steps) → HaveKinds steps
kinds_all steps i past before = before (subst HaveKinds (sym (drop_all i steps past)) tt)

-- ---- the deal under way

pub dealing_here : (rules : Rules) (all : List Step) (i : ℕ) (s : Step) (rest : List Step) (h : Hands) (so_far : List Held) → i < length all → s ≡ get_or all i s
    → rest ≡ drop (i + 1) all → IsDealing rules all (drop i all) h so_far → IsDealing rules all (s ∷ rest) h so_far
dealing_here rules all i s rest h so_far within is rest_is d =
    subst (λ (steps : List Step). IsDealing rules all steps h so_far) (step_at all i s within is ∙ ap (λ (r : List Step). s ∷ r) (sym rest_is)) d

pub dealing_is : (rules : Rules) (all rest new_rest : List Step) (h new : Hands) (so_far new_far : List Held) → new_rest ≡ rest → new ≡ h → new_far ≡ so_far
    → IsDealing rules all rest h so_far → IsDealing rules all new_rest new new_far
dealing_is rules all rest new_rest h new so_far new_far rest_is is far_is d =
    subst (λ (r : List Step). IsDealing rules all r new new_far) (sym rest_is)
    (subst (λ (g : Hands). IsDealing rules all rest g new_far) (sym is) (subst (λ (l : List Held). IsDealing rules all rest h l) (sym far_is) d))
