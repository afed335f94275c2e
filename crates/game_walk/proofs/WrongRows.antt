-- The wrong numbers of a sheet, from the written numbers.
use Rattle.std.proofs.Common.{◌≡◌, ℕ, ℤ, zero, suc, ◌+◌, ◌<◌, List, [], ◌∷◌, ◌++◌, length, take, get_or, slice_get, Bool, Option, Some, refl, sym, ap, ◌∙◌, subst, arith}
use Rattle.std.specs.Option.{unwrap_or}
use Rattle.std.specs.List.{flat_map, range_with_len}
use Rattle.std.specs.Prelude.{min, pos, ◌+ℤ◌, false, if◌then◌else◌}
use Rattle.std.proofs.lemmas.List.{append_assoc, append-nil, take_all}
use Rattle.std.proofs.lemmas.Option.{slice_get_read, same_Some, slice_get_within, get_or_from_slice_get}
use Rattle.gcg_read.specs.declared.events.Event.{Event}
use Rattle.gcg_read.specs.declared.events.Seat.{Seat}
use Rattle.gcg_read.specs.declared.events.Seat.TheVariants.{First, Second}
use Rattle.game_corrections.specs.declared.wrong_numbers.WrongNumber.{WrongNumber}
use Rattle.game_corrections.specs.declared.wrong_numbers.WrongNumber.TheVariants as wrong_number
use Rattle.game_corrections.specs.LastTotals.{last_total}
use Rattle.game_corrections.specs.WrongNumbers.{had_before, known_total, is_right_sum, wrong_score, wrong_sum, wrong_of, wrong_at, wrong_lines, is_reported, wrong_total_of, wrong_total, all_wrong}
use Rattle.game_corrections.proofs.Totals.{total_more}
use Rattle.game_walk.specs.declared.numbers.Numbers.{Numbers}
use Rattle.game_walk.specs.declared.totals.Totals.{Totals}
use Rattle.game_walk.specs.Numbers.{with_numbers, renumbered}
use Rattle.game_walk.specs.Totals.{total_after, total_of, had_of, HasTotals}

-- the event at a place with its number
pub renumbered_there : (events : List Event) (numbers : List Numbers) (place : ℕ) (e : Event) (n : Numbers) → slice_get events place ≡ Some e → slice_get numbers place ≡ Some n
    → slice_get (renumbered events numbers) place ≡ Some (with_numbers e n)
renumbered_there [] numbers place e n of_e of_n = cc
renumbered_there (d ∷ rest) [] place e n of_e of_n = cc
renumbered_there (d ∷ rest) (m ∷ numbers) zero e n of_e of_n =
    ap (λ (x : Event). Some (with_numbers x m)) (same_Some d e of_e) ∙ ap (λ (k : Numbers). Some (with_numbers e k)) (same_Some m n of_n)
renumbered_there (d ∷ rest) (m ∷ numbers) (suc place) e n of_e of_n = renumbered_there rest numbers place e n of_e of_n

pub renumbered_long : (events : List Event) (numbers : List Numbers) → length (renumbered events numbers) ≡ length events
renumbered_long [] numbers = refl
renumbered_long (e ∷ events) [] = refl
renumbered_long (e ∷ events) (n ∷ numbers) = ap suc (renumbered_long events numbers)

had_is : (events : List Event) (totals : Totals) (player : Seat) → HasTotals events totals → had_of totals player ≡ unwrap_or (last_total player events) (pos 0)
had_is events totals First has = ap (λ o. unwrap_or o (pos 0)) has.first
had_is events totals Second has = ap (λ o. unwrap_or o (pos 0)) has.second

-- what the player of an event had before it
pub had_there : (events : List Event) (place : ℕ) (totals : Totals) (player : Seat) → HasTotals (take place events) totals → had_of totals player ≡ had_before events player place
had_there events place totals player has = had_is (take place events) totals player has

-- one more total
pub totals_more : (right : List Event) (numbers : List Numbers) (place : ℕ) (e : Event) (n : Numbers) (old new : Totals) → place < length numbers → place < length right
    → e ≡ get_or right place e → n ≡ get_or numbers place n → HasTotals (take place (renumbered right numbers)) old
    → new.first ≡ total_after (with_numbers e n) First old.first → new.second ≡ total_after (with_numbers e n) Second old.second
    → HasTotals (take (place + 1) (renumbered right numbers)) new
totals_more right numbers place e n old new in_numbers in_right of_e of_n has first second =
    let events = renumbered right numbers in
    let x = with_numbers e n in
    let there : slice_get events place ≡ Some x =
    renumbered_there right numbers place e n (slice_get_read right (length right) place e refl in_right of_e) (slice_get_read numbers (length numbers) place n refl in_numbers of_n) in
    let within = slice_get_within events place x there in
    let read : x ≡ get_or events place x = sym (get_or_from_slice_get events place x x there) in
    record {
      first = first ∙ total_more First events place x old.first within read has.first;
      second = second ∙ total_more Second events place x old.second within read has.second;
    }

wrong_here : (stop : Option ℕ) (written right : List Event) (place : ℕ) (e r : Event) → slice_get written place ≡ Some e → slice_get right place ≡ Some r
    → wrong_at stop written right place ≡ wrong_score e r ++ wrong_sum (had_before written e.player place) e (known_total stop r)
wrong_here stop written right place e r of_e of_r =
    ap (λ o. wrong_of stop written place o (slice_get right place)) of_e ∙ ap (wrong_of stop written place (Some e)) of_r

-- the score and then the sum
pub both_wrong : (stop : Option ℕ) (right : List Event) (numbers : List Numbers) (place : ℕ) (e : Event) (n : Numbers) (totals : Totals) (items first second : List WrongNumber) (had : ℤ) (due : Option ℤ)
    → place < length numbers → place < length right → e ≡ get_or right place e → n ≡ get_or numbers place n → HasTotals (take place (renumbered right numbers)) totals
    → first ≡ items ++ wrong_score (with_numbers e n) e → had ≡ had_of totals e.player → due ≡ known_total stop e → second ≡ first ++ wrong_sum had (with_numbers e n) due
    → second ≡ items ++ wrong_at stop (renumbered right numbers) right place
both_wrong stop right numbers place e n totals items first second had due in_numbers in_right of_e of_n has made same is_due last =
    let events = renumbered right numbers in
    let x = with_numbers e n in
    let known = known_total stop e in
    let of_right = slice_get_read right (length right) place e refl in_right of_e in
    let there = renumbered_there right numbers place e n of_right (slice_get_read numbers (length numbers) place n refl in_numbers of_n) in
    last ∙ ap (λ d. first ++ wrong_sum had x d) is_due ∙ ap (λ k. first ++ wrong_sum k x known) (same ∙ had_there events place totals e.player has)
    ∙ ap (λ xs. xs ++ wrong_sum (had_before events e.player place) x known) made
    ∙ append_assoc items (wrong_score x e) (wrong_sum (had_before events e.player place) x known)
    ∙ ap (λ xs. items ++ xs) (sym (wrong_here stop events right place x e there of_right))

-- a total that is not right
pub sum_pushed : (items new : List WrongNumber) (e : Event) (had : ℤ) (right : Option ℤ) (test : Bool) (h w s : ℤ) → h ≡ had → test ≡ is_right_sum e.total (h +ℤ e.score) right → test ≡ false
    → w ≡ e.total → s ≡ had +ℤ e.score → new ≡ items ++ wrong_number.Sum e.line w s right ∷ [] → new ≡ items ++ wrong_sum had e right
sum_pushed items new e had right test h w s same is fails of_w of_s made =
    made ∙ ap (λ x. items ++ wrong_number.Sum e.line x s right ∷ []) of_w ∙ ap (λ x. items ++ wrong_number.Sum e.line e.total x right ∷ []) of_s
    ∙ ap (λ b. items ++ (if b then [] else (wrong_number.Sum e.line e.total (had +ℤ e.score) right ∷ []))) (sym fails ∙ is ∙ ap (λ x. is_right_sum e.total (x +ℤ e.score) right) same)

-- ---- one more place

range_last : {A : Type 0} (f : ℕ → List A) (a n : ℕ) → flat_map f (range_with_len a (suc n)) ≡ flat_map f (range_with_len a n) ++ f (a + n)
range_last f a zero = append-nil (f a) ∙ ap f (omega arith)
range_last {A} f a (suc n) =
    ap (λ (xs : List A). f a ++ xs) (range_last f (a + 1) n) ∙ sym (append_assoc (f a) (flat_map f (range_with_len (a + 1) n)) (f (a + 1 + n)))
    ∙ ap (λ k. (f a ++ flat_map f (range_with_len (a + 1) n)) ++ f k) (omega arith)

-- what is wrong before a place
abbrev pub wrong_to : (stop : Option ℕ) → (written right : List Event) → (place : ℕ) → List WrongNumber
wrong_to stop written right place = flat_map (wrong_at stop written right) (range_with_len 0 place)

pub wrong_more : (stop : Option ℕ) (written right : List Event) (place : ℕ) (front old new : List WrongNumber) → old ≡ front ++ wrong_to stop written right place
    → new ≡ old ++ wrong_at stop written right place → new ≡ front ++ wrong_to stop written right (place + 1)
wrong_more stop written right place front old new so_far added =
    let step : place + 1 ≡ suc place = omega arith in
    let start : place ≡ 0 + place = omega arith in
    added ∙ ap (λ xs. xs ++ wrong_at stop written right place) so_far ∙ append_assoc front (wrong_to stop written right place) (wrong_at stop written right place)
    ∙ ap (λ k. front ++ (wrong_to stop written right place ++ wrong_at stop written right k)) start
    ∙ ap (λ xs. front ++ xs) (sym (range_last (wrong_at stop written right) 0 place) ∙ ap (wrong_to stop written right) (sym step))

-- and after the last
pub lines_wrong : (stop : Option ℕ) (right : List Event) (numbers : List Numbers) (place : ℕ) (front new : List WrongNumber) → new ≡ front ++ wrong_to stop (renumbered right numbers) right place
    → place ≡ length right → new ≡ front ++ wrong_lines stop (renumbered right numbers) right
unfolding wrong_lines
lines_wrong stop right numbers place front new so_far last =
    let long = renumbered_long right numbers in
    let all : place ≡ min (length (renumbered right numbers)) (length right) = omega (arith, long, last) in
    so_far ∙ ap (λ k. front ++ wrong_to stop (renumbered right numbers) right k) all

pub all_totals : (right : List Event) (numbers : List Numbers) (place : ℕ) (totals : Totals) → HasTotals (take place (renumbered right numbers)) totals → place ≡ length right
    → HasTotals (renumbered right numbers) totals
all_totals right numbers place totals has last =
    let long = renumbered_long right numbers in
    subst (λ (es : List Event). HasTotals es totals) (take_all place (renumbered right numbers) (omega (arith, long, last))) has

-- ---- the last totals

total_wrong : (player : Seat) (lines : List WrongNumber) (written right : List Event) (totals : Totals) (reported : Bool) (o : Option ℤ) → HasTotals written totals → reported ≡ is_reported player right lines
    → o ≡ last_total player right → wrong_total_of player reported (total_of totals player) o ≡ wrong_total player lines written right
total_wrong First lines written right totals reported o has of_reported of_right =
    ap (λ b. wrong_total_of First b totals.first o) of_reported ∙ ap (λ t. wrong_total_of First (is_reported First right lines) t o) has.first
    ∙ ap (wrong_total_of First (is_reported First right lines) (last_total First written)) of_right
total_wrong Second lines written right totals reported o has of_reported of_right =
    ap (λ b. wrong_total_of Second b totals.second o) of_reported ∙ ap (λ t. wrong_total_of Second (is_reported Second right lines) t o) has.second
    ∙ ap (wrong_total_of Second (is_reported Second right lines) (last_total Second written)) of_right

pub both_totals : (written right : List Event) (totals : Totals) (reported_first reported_second : Bool) (a b : Option ℤ) (items first second : List WrongNumber) → HasTotals written totals
    → reported_first ≡ is_reported First right items → reported_second ≡ is_reported Second right items → a ≡ last_total First right → b ≡ last_total Second right
    → first ≡ items ++ wrong_total_of First reported_first (total_of totals First) a → second ≡ first ++ wrong_total_of Second reported_second (total_of totals Second) b
    → second ≡ all_wrong items written right
both_totals written right totals reported_first reported_second a b items first second has of_first of_second of_a of_b made last =
    last ∙ ap (λ xs. first ++ xs) (total_wrong Second items written right totals reported_second b has of_second of_b)
    ∙ ap (λ xs. xs ++ wrong_total Second items written right) (made ∙ ap (λ xs. items ++ xs) (total_wrong First items written right totals reported_first a has of_first of_a))
    ∙ append_assoc items (wrong_total First items written right) (wrong_total Second items written right)
