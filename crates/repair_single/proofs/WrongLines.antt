-- The numbers of an audit that are on a line.
use Rattle.std.proofs.Common.{◌≡◌, ℕ, ℤ, Bool, true, false, List, [], ◌∷◌, ◌++◌, length, min, slice_get, Option, Some, None, refl, ap, ◌∙◌, if◌then◌else◌}
use Rattle.std.specs.Prelude.{◌+ℤ◌, ◌||◌}
use Rattle.std.specs.List.{filter, flat_map, range_with_len}
use Rattle.std.specs.Ordering.{int_eq}
use Rattle.std.proofs.lemmas.List.{append-nil}
use Rattle.std.proofs.lemmas.List.Elements.{filter-append}
use Rattle.gcg_read.specs.declared.events.Event.{Event}
use Rattle.gcg_read.specs.declared.events.Seat.{Seat}
use Rattle.gcg_read.specs.declared.events.Seat.TheVariants.{First, Second}
use Rattle.game_corrections.specs.declared.wrong_numbers.WrongNumber.{WrongNumber}
use Rattle.game_corrections.specs.declared.wrong_numbers.WrongNumber.TheVariants as wrong
use Rattle.game_corrections.specs.LastTotals.{last_total}
use Rattle.game_corrections.specs.WrongNumbers.{had_before, known_total, is_right_sum, wrong_score, wrong_sum, wrong_of, wrong_at, wrong_lines, is_reported, wrong_total_of, wrong_total, wrong_totals, all_wrong}
use Rattle.repair_single.specs.Remaining.{is_on_line}

-- ---- lists of numbers on lines, and of others

filter_each : {X : Type 0} (p : X → Bool) (f : ℕ → List X) → ((k : ℕ) → filter p (f k) ≡ f k) → (places : List ℕ) → filter p (flat_map f places) ≡ flat_map f places
filter_each p f each [] = refl
filter_each {X} p f each (k ∷ places) =
    filter-append p (f k) (flat_map f places) ∙ ap (λ (xs : List X). xs ++ filter p (flat_map f places)) (each k) ∙ ap (λ (xs : List X). f k ++ xs) (filter_each p f each places)

-- ---- the numbers of a place

one_kept : (number : WrongNumber) (b : Bool) → is_on_line number ≡ true → filter is_on_line (if b then [] else (number ∷ [])) ≡ (if b then [] else (number ∷ []))
one_kept number true on = refl
one_kept (wrong.Score line written right) false on = refl
one_kept (wrong.Sum line written sum right) false on = refl
one_kept (wrong.Total player written right) false on = cc

of_kept : (stop : Option ℕ) (written : List Event) (place : ℕ) (o r : Option Event) → filter is_on_line (wrong_of stop written place o r) ≡ wrong_of stop written place o r
of_kept stop written place None r = refl
of_kept stop written place (Some e) None = refl
of_kept stop written place (Some e) (Some r) =
    let had = had_before written e.player place in
    let known = known_total stop r in
    filter-append is_on_line (wrong_score e r) (wrong_sum had e known)
    ∙ ap (λ (xs : List WrongNumber). xs ++ filter is_on_line (wrong_sum had e known)) (one_kept (wrong.Score e.line e.score r.score) (int_eq e.score r.score) refl)
    ∙ ap (λ (xs : List WrongNumber). wrong_score e r ++ xs)
    (one_kept (wrong.Sum e.line e.total (had +ℤ e.score) known) (is_right_sum e.total (had +ℤ e.score) known) refl)

lines_stay : (stop : Option ℕ) (written right : List Event) → filter is_on_line (wrong_lines stop written right) ≡ wrong_lines stop written right
unfolding wrong_lines
lines_stay stop written right =
    filter_each is_on_line (wrong_at stop written right) (λ k. of_kept stop written k (slice_get written k) (slice_get right k)) (range_with_len 0 (min (length written) (length right)))

-- ---- the last totals

total_gone : (player : Seat) (a b : ℤ) (same : Bool) → filter is_on_line (if same then [] else (wrong.Total player a b ∷ [])) ≡ []
total_gone player a b true = refl
total_gone player a b false = refl

none_of : (player : Seat) (reported : Bool) (a b : Option ℤ) → filter is_on_line (wrong_total_of player reported a b) ≡ []
none_of player reported None b = refl
none_of player reported (Some a) None = refl
none_of player reported (Some a) (Some b) = total_gone player a b (reported || int_eq a b)

totals_go : (lines : List WrongNumber) (written right : List Event) → filter is_on_line (wrong_totals lines written right) ≡ []
totals_go lines written right =
    filter-append is_on_line (wrong_total First lines written right) (wrong_total Second lines written right)
    ∙ ap (λ (xs : List WrongNumber). xs ++ filter is_on_line (wrong_total Second lines written right)) (none_of First (is_reported First right lines) (last_total First written) (last_total First right))
    ∙ none_of Second (is_reported Second right lines) (last_total Second written) (last_total Second right)

-- what is left of an audit without its last totals
pub lines_alone : (stop : Option ℕ) (written right : List Event) → filter is_on_line (all_wrong (wrong_lines stop written right) written right) ≡ wrong_lines stop written right
lines_alone stop written right =
    let lines : List WrongNumber = wrong_lines stop written right in
    filter-append is_on_line lines (wrong_totals lines written right)
    ∙ ap (λ (xs : List WrongNumber). xs ++ filter is_on_line (wrong_totals lines written right)) (lines_stay stop written right)
    ∙ ap (λ (xs : List WrongNumber). lines ++ xs) (totals_go lines written right) ∙ append-nil lines
