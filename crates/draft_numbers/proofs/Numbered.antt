-- The wrong numbers of a draft, one line after the other.
use Rattle.std.proofs.Common.{◌≡◌, ℕ, ℤ, zero, suc, ◌+◌, ◌≤◌, min, List, [], ◌∷◌, ◌++◌, length, drop, slice_get, Option, Some, refl, sym, ap, ◌∙◌, arith}
use Rattle.std.proofs.lemmas.List.{append-nil, append_assoc}
use Rattle.std.proofs.lemmas.Option.{same_Some}
use Rattle.gcg_read.specs.declared.events.Event.{Event}
use Rattle.game_corrections.specs.declared.wrong_numbers.WrongNumber.{WrongNumber}
use Rattle.game_corrections.specs.WrongNumbers.{wrong_sum}
use Rattle.game_walk.specs.declared.numbers.Numbers.{Numbers}
use Rattle.gcg_drafts.specs.declared.missing.Missing.{Missing}
use Rattle.draft_numbers.specs.Numbers.{Totals, had_of, said, total_on, following, wrong_score, wrong_on, wrong_from}

-- the rest of a sheet, from a place on
abbrev pub rest_from : Totals → (lacks : List Missing) → (written : List Event) → (right : List Numbers) → (place : ℕ) → List WrongNumber
rest_from t lacks written right place = wrong_from t (drop place lacks) (drop place written) (drop place right)

-- nothing is left of nothing
none_of : (place : ℕ) → drop {A = Missing} place [] ≡ []
none_of zero = refl
none_of (suc place) = refl

-- what the first of the others is
rest_of : (t : Totals) (place : ℕ) (lacks : List Missing) (written : List Event) (right : List Numbers) (e : Event) (n : Numbers) → slice_get written place ≡ Some e → slice_get right place ≡ Some n
    → rest_from t lacks written right place
    ≡ wrong_on (said (slice_get lacks place)) (had_of t e.player) e n
    ++ rest_from (following t e.player (total_on (said (slice_get lacks place)) (had_of t e.player) e n)) lacks written right (suc place)
rest_of t zero lacks [] right e n at there = absurd cc
rest_of t zero lacks (x ∷ written) [] e n at there = absurd cc
rest_of t zero [] (x ∷ written) (y ∷ right) e n at there = rw (same_Some x e at, same_Some y n there) refl
rest_of t zero (m ∷ lacks) (x ∷ written) (y ∷ right) e n at there = rw (same_Some x e at, same_Some y n there) refl
rest_of t (suc place) lacks [] right e n at there = absurd cc
rest_of t (suc place) lacks (x ∷ written) [] e n at there = absurd cc
rest_of t (suc place) [] (x ∷ written) (y ∷ right) e n at there =
    ap (λ (l : List Missing). wrong_from t l (drop place written) (drop place right)) (sym (none_of place)) ∙ rest_of t place [] written right e n at there
rest_of t (suc place) (m ∷ lacks) (x ∷ written) (y ∷ right) e n at there = rest_of t place lacks written right e n at there

-- a score and a total
pub both_pushed : (old mid new : List WrongNumber) (had by : ℤ) (e : Event) (right : Numbers) (due : Option ℤ) → mid ≡ old ++ wrong_score e right.score → new ≡ mid ++ wrong_sum by e due → by ≡ had
    → due ≡ Some right.total → new ≡ old ++ (wrong_score e right.score ++ wrong_sum had e (Some right.total))
both_pushed old mid new had by e right due scored summed same is =
    summed ∙ ap (λ (b : ℤ). mid ++ wrong_sum b e due) same ∙ ap (λ (d : Option ℤ). mid ++ wrong_sum had e d) is
    ∙ ap (λ (m : List WrongNumber). m ++ wrong_sum had e (Some right.total)) scored ∙ append_assoc old (wrong_score e right.score) (wrong_sum had e (Some right.total))

-- one line more
pub one_more_line : (found next : List WrongNumber) (t after : Totals) (place : ℕ) (lacks : List Missing) (written : List Event) (right : List Numbers) (whole : List WrongNumber) (e : Event) (n : Numbers)
    → slice_get written place ≡ Some e → slice_get right place ≡ Some n → next ≡ found ++ wrong_on (said (slice_get lacks place)) (had_of t e.player) e n
    → after ≡ following t e.player (total_on (said (slice_get lacks place)) (had_of t e.player) e n)
    → found ++ rest_from t lacks written right place ≡ whole → next ++ rest_from after lacks written right (place + 1) ≡ whole
one_more_line found next t after place lacks written right whole e n at there pushed noted so_far =
    let step : place + 1 ≡ suc place = omega arith in
    let now = wrong_on (said (slice_get lacks place)) (had_of t e.player) e n in
    let then = following t e.player (total_on (said (slice_get lacks place)) (had_of t e.player) e n) in
    ap (λ k. next ++ rest_from after lacks written right k) step
    ∙ ap (λ (l : List WrongNumber). l ++ rest_from after lacks written right (suc place)) pushed
    ∙ ap (λ (a : Totals). (found ++ now) ++ rest_from a lacks written right (suc place)) noted
    ∙ append_assoc found now (rest_from then lacks written right (suc place))
    ∙ ap (λ (l : List WrongNumber). found ++ l) (sym (rest_of t place lacks written right e n at there)) ∙ so_far

-- without right numbers none is wrong
no_numbers : (t : Totals) (lacks : List Missing) (written : List Event) → wrong_from t lacks written [] ≡ []
no_numbers t lacks [] = refl
no_numbers t lacks (e ∷ written) = refl

none_remaining : (t : Totals) (place : ℕ) (lacks : List Missing) (written : List Event) (right : List Numbers) → min (length written) (length right) ≤ place
    → rest_from t lacks written right place ≡ []
none_remaining t zero lacks [] right past = refl
none_remaining t zero lacks (x ∷ written) [] past = refl
none_remaining t zero lacks (x ∷ written) (y ∷ right) past = absurd (omega (arith, past))
none_remaining t (suc place) lacks [] right past = refl
none_remaining t (suc place) lacks (x ∷ written) [] past = no_numbers t (drop (suc place) lacks) (drop place written)
none_remaining t (suc place) [] (x ∷ written) (y ∷ right) past =
    ap (λ (l : List Missing). wrong_from t l (drop place written) (drop place right)) (sym (none_of place)) ∙ none_remaining t place [] written right (omega (arith, past))
none_remaining t (suc place) (m ∷ lacks) (x ∷ written) (y ∷ right) past = none_remaining t place lacks written right (omega (arith, past))

-- no line more
pub all_lines : (found : List WrongNumber) (t : Totals) (place end : ℕ) (lacks : List Missing) (written : List Event) (right : List Numbers) (whole : List WrongNumber)
    → end ≡ min (length written) (length right) → end ≤ place → found ++ rest_from t lacks written right place ≡ whole → found ≡ whole
all_lines found t place end lacks written right whole is past so_far =
    sym (append-nil found) ∙ ap (λ (l : List WrongNumber). found ++ l) (sym (none_remaining t place lacks written right (omega (arith, is, past)))) ∙ so_far
