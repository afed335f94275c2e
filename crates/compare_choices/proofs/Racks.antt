-- How many racks a sheet states.
use Rattle.std.proofs.Common.{◌≡◌, ℕ, zero, suc, ◌+◌, ◌<◌, ◌≤◌, Bool, true, false, List, [], ◌∷◌, length, drop, get_or, refl, sym, ap, ◌∙◌, subst, arith, if◌then◌else◌}
use Rattle.gcg_read.specs.declared.events.Event.{Event}
use Rattle.gcg_read.specs.declared.events.Seat.{Seat}
use Rattle.compare_choices.specs.Sheets.{states_rack, racks_of}

dropped_next : {X : Type 0} (xs : List X) (i : ℕ) (x : X) → i < length xs → x ≡ get_or xs i x → drop i xs ≡ x ∷ drop (suc i) xs
dropped_next [] i x within is = absurd (omega (arith, within))
dropped_next {X} (y ∷ xs) zero x within is = ap (λ (z : X). z ∷ xs) (sym is)
dropped_next (y ∷ xs) (suc i) x within is = dropped_next xs i x (omega (arith, within)) is

next_is : (i : ℕ) → suc i ≡ i + 1
next_is i = omega arith

dropped : {X : Type 0} (xs : List X) (i : ℕ) (x : X) → i < length xs → x ≡ get_or xs i x → drop i xs ≡ x ∷ drop (i + 1) xs
dropped xs i x within is = dropped_next xs i x within is ∙ ap (λ k. x ∷ drop k xs) (next_is i)

past_all : {X : Type 0} (xs : List X) (i : ℕ) → length xs ≤ i → drop i xs ≡ []
past_all [] zero all = refl
past_all [] (suc i) all = refl
past_all (x ∷ xs) zero all = absurd (omega (arith, all))
past_all (x ∷ xs) (suc i) all = past_all xs i (omega (arith, all))

rack_by : (player : Seat) (many : ℕ) (e : Event) (rest : List Event) (b : Bool) → states_rack player e ≡ b → (if states_rack player e then many + 1 else many) + racks_of player rest ≡ many + racks_of player (e ∷ rest)
rack_by player many e rest true is = rw is (omega arith)
rack_by player many e rest false is = rw is refl

pub rack_more : (player : Seat) (many next : ℕ) (events : List Event) (i : ℕ) (e : Event) (all : ℕ) → i < length events → e ≡ get_or events i e → next ≡ (if states_rack player e then many + 1 else many)
    → many + racks_of player (drop i events) ≡ all → next + racks_of player (drop (i + 1) events) ≡ all
rack_more player many next events i e all within is following so_far =
    ap (λ n. n + racks_of player (drop (i + 1) events)) following ∙ rack_by player many e (drop (i + 1) events) (states_rack player e) refl
    ∙ ap (λ (xs : List Event). many + racks_of player xs) (sym (dropped events i e within is)) ∙ so_far

few_by : (many i : ℕ) (b : Bool) → many ≤ i → (if b then many + 1 else many) ≤ i + 1
few_by many i true few = omega (arith, few)
few_by many i false few = omega (arith, few)

pub rack_few : (player : Seat) (many next i : ℕ) (e : Event) → next ≡ (if states_rack player e then many + 1 else many) → many ≤ i → next ≤ i + 1
rack_few player many next i e following few = subst (λ n. n ≤ i + 1) (sym following) (few_by many i (states_rack player e) few)

pub racks_all : (player : Seat) (many : ℕ) (events : List Event) (i : ℕ) (all : ℕ) → length events ≤ i → many + racks_of player (drop i events) ≡ all → many ≡ all
racks_all player many events i all past so_far =
    let none = ap (racks_of player) (past_all events i past) in
    omega (arith, none, so_far)
