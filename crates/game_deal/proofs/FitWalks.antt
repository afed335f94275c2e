-- A deal is checked step by step, from the first event of a record on.
use Rattle.std.proofs.Common.{◌≡◌, ◌↔◌, ℕ, suc, ◌+◌, ◌<◌, ◌≤◌, Bool, true, false, List, [], ◌∷◌, length, get_or, drop, drop-cons, add-one, IsTrue, refl, sym, ap, subst, ◌∙◌, arith, Some, slice_get}
use Rattle.std.proofs.lemmas.Bool.{false≢true}
use Rattle.std.proofs.lemmas.Option.{slice_get_within, get_or_from_slice_get}
use Rattle.ref_tiles.specs.declared.rulebook.Rules.{Rules}
use Rattle.gcg_read.specs.declared.events.Event.{Event}
use Rattle.game_turns.specs.declared.passed.Passed.{Passed}
use Rattle.game_turns.specs.Passing.{rules_in, record_in}
use Rattle.deal_steps.specs.declared.deals.Held.{Held}
use Rattle.deal_steps.specs.declared.steps.Step.{Step}
use Rattle.deal_steps.specs.Fitting.{FitsAt, FollowsTo, Fits}
use Rattle.deal_steps.proofs.FitLaws.{FitsFrom, length_of_fit, fits_all}
use Rattle.game_deal.specs.Bounded.{steps_in, FitsRecord}
use Rattle.game_deal.proofs.StepLaws.{length-steps}

-- ---- a step with what is held before it

-- the racks from a place on
first_of : (rules : Rules) (steps : List Step) (deal : List Held) (i : ℕ) (s : Step) (held : Held) → slice_get steps i ≡ Some s → i < length deal → held ≡ get_or deal i held
    → (drop i steps ≡ s ∷ drop (i + 1) steps) × (drop i deal ≡ held ∷ drop (i + 1) deal)
first_of rules steps deal i s held is inside there =
    let within = slice_get_within steps i s is in
    let here = get_or_from_slice_get steps i s s is in
    let one : drop i steps ≡ s ∷ drop (suc i) steps = drop-cons steps i s within ∙ ap (λ (x : Step). x ∷ drop (suc i) steps) here in
    let two : drop i deal ≡ held ∷ drop (suc i) deal = drop-cons deal i held inside ∙ ap (λ (x : Held). x ∷ drop (suc i) deal) (sym there) in
    rw (add-one i) (one, two)

looked : (rules : Rules) (steps : List Step) (deal : List Held) (i : ℕ) (s : Step) (held : Held) → slice_get steps i ≡ Some s → i < length deal → held ≡ get_or deal i held
    → FitsFrom rules steps deal i → FitsAt rules s held × FollowsTo rules s held (drop (i + 1) deal) × FitsFrom rules steps deal (i + 1)
looked rules steps deal i s held is inside there fits =
    let parts = first_of rules steps deal i s held is inside there in
    let one : Fits rules (s ∷ drop (i + 1) steps) (drop i deal) = subst (λ (xs : List Step). Fits rules xs (drop i deal)) parts.0 fits in
    subst (λ (hs : List Held). Fits rules (s ∷ drop (i + 1) steps) hs) parts.1 one

joined : (rules : Rules) (steps : List Step) (deal : List Held) (i : ℕ) (s : Step) (held : Held) → slice_get steps i ≡ Some s → i < length deal → held ≡ get_or deal i held
    → FitsAt rules s held → FollowsTo rules s held (drop (i + 1) deal) → FitsFrom rules steps deal (i + 1) → FitsFrom rules steps deal i
joined rules steps deal i s held is inside there at follows later =
    let parts = first_of rules steps deal i s held is inside there in
    let whole : Fits rules (s ∷ drop (i + 1) steps) (held ∷ drop (i + 1) deal) = (at, follows, later) in
    let one : Fits rules (s ∷ drop (i + 1) steps) (drop i deal) = subst (λ (hs : List Held). Fits rules (s ∷ drop (i + 1) steps) hs) (sym parts.1) whole in
    subst (λ (xs : List Step). Fits rules xs (drop i deal)) (sym parts.0) one

-- ---- by the answers of the checks

none_fits : (P : Type 0) → (P → ⊥) → IsTrue false ↔ P
none_fits P h = (λ e. absurd (false≢true e), λ p. absurd (h p))

not_both : (b : Bool) (P : Type 0) → b ≡ false → IsTrue b ↔ P → P → ⊥
not_both b P fails same p = let both : false ≡ true = sym fails ∙ same.1 p in absurd (false≢true both)

-- there are more or fewer racks than events
pub sizes_differ : (passed : Passed) (deal : List Held) (events : List Event) (n m : ℕ) → n ≡ length deal → m ≡ length events → events ≡ (record_in passed).events → (n ≡ m → ⊥)
    → IsTrue false ↔ FitsRecord passed deal
sizes_differ passed deal events n m size count same other =
    none_fits (FitsRecord passed deal) (λ fits.
    let whole = length_of_fit (rules_in passed) (steps_in passed) deal fits in
    let steps = length-steps (rules_in passed) [] (record_in passed).events in
    let long = ap length same in
    other (omega arith))

-- the racks before a step do not fit
pub not_at : (passed : Passed) (own : Rules) (deal given : List Held) (i : ℕ) (s : Step) (held : Held) (b : Bool) → own ≡ rules_in passed → given ≡ deal → slice_get (steps_in passed) i ≡ Some s
    → i < length given → held ≡ get_or given i held → FitsRecord passed deal ↔ FitsFrom (rules_in passed) (steps_in passed) deal i → b ≡ false
    → IsTrue b ↔ FitsAt own s held → IsTrue false ↔ FitsRecord passed deal
not_at passed own deal given i s held b by same is inside there whole fails reported =
    let long = ap length same in
    let within : i < length deal = omega arith in
    let here : held ≡ get_or deal i held = there ∙ ap (λ (hs : List Held). get_or hs i held) same in
    let again = subst (λ (r : Rules). IsTrue b ↔ FitsAt r s held) by reported in
    none_fits (FitsRecord passed deal) (λ fits. not_both b (FitsAt (rules_in passed) s held) fails again (looked (rules_in passed) (steps_in passed) deal i s held is within here (whole.0 fits)).0)

-- the racks before the next step do not follow
pub not_after : (passed : Passed) (own : Rules) (deal given rest : List Held) (i : ℕ) (s : Step) (held : Held) (b : Bool) → own ≡ rules_in passed → given ≡ deal → slice_get (steps_in passed) i ≡ Some s
    → i < length given → held ≡ get_or given i held → rest ≡ drop (i + 1) given → FitsRecord passed deal ↔ FitsFrom (rules_in passed) (steps_in passed) deal i → b ≡ false
    → IsTrue b ↔ FollowsTo own s held rest → IsTrue false ↔ FitsRecord passed deal
not_after passed own deal given rest i s held b by same is inside there following whole fails reported =
    let long = ap length same in
    let within : i < length deal = omega arith in
    let here : held ≡ get_or deal i held = there ∙ ap (λ (hs : List Held). get_or hs i held) same in
    let last : rest ≡ drop (i + 1) deal = following ∙ ap (λ (hs : List Held). drop (i + 1) hs) same in
    let ruled = subst (λ (r : Rules). IsTrue b ↔ FollowsTo r s held rest) by reported in
    let again = subst (λ (hs : List Held). IsTrue b ↔ FollowsTo (rules_in passed) s held hs) last ruled in
    none_fits (FitsRecord passed deal) (λ fits.
    not_both b (FollowsTo (rules_in passed) s held (drop (i + 1) deal)) fails again (looked (rules_in passed) (steps_in passed) deal i s held is within here (whole.0 fits)).1)

-- one more step is checked
pub one_more : (passed : Passed) (own : Rules) (deal given rest : List Held) (i : ℕ) (s : Step) (held : Held) (b d : Bool) → own ≡ rules_in passed → given ≡ deal → slice_get (steps_in passed) i ≡ Some s
    → i < length given → held ≡ get_or given i held → rest ≡ drop (i + 1) given → FitsRecord passed deal ↔ FitsFrom (rules_in passed) (steps_in passed) deal i
    → b ≡ true → IsTrue b ↔ FitsAt own s held → d ≡ true → IsTrue d ↔ FollowsTo own s held rest
    → FitsRecord passed deal ↔ FitsFrom (rules_in passed) (steps_in passed) deal (i + 1)
one_more passed own deal given rest i s held b d by same is inside there following whole one at two follow =
    let long = ap length same in
    let within : i < length deal = omega arith in
    let here : held ≡ get_or deal i held = there ∙ ap (λ (hs : List Held). get_or hs i held) same in
    let last : rest ≡ drop (i + 1) deal = following ∙ ap (λ (hs : List Held). drop (i + 1) hs) same in
    let fit = subst (λ (r : Rules). FitsAt r s held) by (at.0 one) in
    let ruled = subst (λ (r : Rules). FollowsTo r s held rest) by (follow.0 two) in
    let again = subst (λ (hs : List Held). FollowsTo (rules_in passed) s held hs) last ruled in (
      λ fits. (looked (rules_in passed) (steps_in passed) deal i s held is within here (whole.0 fits)).2,
      λ later. whole.1 (joined (rules_in passed) (steps_in passed) deal i s held is within here fit again later),
    )

-- all steps are checked
pub all_fit : (passed : Passed) (deal : List Held) (events : List Event) (n m i : ℕ) → n ≡ length deal → m ≡ length events → events ≡ (record_in passed).events → n ≡ m → n ≤ i
    → FitsRecord passed deal ↔ FitsFrom (rules_in passed) (steps_in passed) deal i → IsTrue true ↔ FitsRecord passed deal
all_fit passed deal events n m i size count same equal past whole =
    let steps = length-steps (rules_in passed) [] (record_in passed).events in
    let long = ap length same in
    (λ e. whole.1 (fits_all (rules_in passed) (steps_in passed) deal i (omega arith) (omega arith)), λ fits. refl)
