-- A record is the draft in which nothing is missing.
use Rattle.std.proofs.Common.{◌≡◌, ℕ, ℤ, zero, suc, ◌+◌, min, true, List, [], ◌∷◌, ◌++◌, length, map, take, slice_get, Option, Some, None, refl, sym, ap, ◌∙◌, arith}
use Rattle.std.specs.Prelude.{pos}
use Rattle.std.specs.List.{flat_map, range_with_len}
use Rattle.std.specs.Option.{unwrap_or}
use Rattle.std.proofs.lemmas.List.{append_assoc, length-append}
use Rattle.gcg_read.specs.Players.{same_seat}
use Rattle.gcg_read.specs.declared.events.Event.{Event}
use Rattle.gcg_read.specs.declared.events.Seat.{Seat}
use Rattle.gcg_read.specs.declared.events.Seat.TheVariants.{First, Second}
use Rattle.game_corrections.specs.LastTotals.{last_total}
use Rattle.game_corrections.specs.WrongNumbers.{wrong_of, wrong_at, wrong_lines}
use Rattle.game_corrections.specs.declared.wrong_numbers.WrongNumber.{WrongNumber}
use Rattle.game_corrections.proofs.Totals.{last_own, last_other}
use Rattle.game_walk.specs.Numbers.{numbers_in}
use Rattle.gcg_drafts.specs.declared.missing.Missing.{Missing}
use Rattle.gcg_drafts.specs.declared.missing.Missing.TheVariants as missing
use Rattle.draft_numbers.specs.Numbers.{Totals, nothing, had_of, following, total_on, wrong_on, first_lack, other_lacks, wrong_from, wrong_written}
use Rattle.draft_numbers.specs.Laws.{is_whole}

-- ---- nothing is missing

first_is : (lacks : List Missing) → is_whole lacks ≡ true → first_lack lacks ≡ missing.Nothing
first_is [] whole = refl
first_is (missing.Nothing ∷ lacks) whole = refl
first_is (missing.Total ∷ lacks) whole = cc
first_is (missing.Both ∷ lacks) whole = cc

others_are : (lacks : List Missing) → is_whole lacks ≡ true → is_whole (other_lacks lacks) ≡ true
others_are [] whole = refl
others_are (missing.Nothing ∷ lacks) whole = whole
others_are (missing.Total ∷ lacks) whole = cc
others_are (missing.Both ∷ lacks) whole = cc

-- ---- what the players have

-- what a player has after some lines
abbrev had : Seat → (before : List Event) → ℤ
had player before = unwrap_or (last_total player before) (pos 0)

pub record Has (t : Totals) (before : List Event) : Type 0 where
  pub first : t.first ≡ had First before
  pub second : t.second ≡ had Second before

had_is : (t : Totals) (before : List Event) (player : Seat) → Has t before → had_of t player ≡ had player before
had_is t before First has = has.first
had_is t before Second has = has.second

one_more : (t : Totals) (before : List Event) (e : Event) (own : Seat) → e.player ≡ own → Has t before → Has (following t own e.total) (before ++ e ∷ [])
one_more t before e First is has =
    record {
      first = ap (λ (o : Option ℤ). unwrap_or o (pos 0)) (last_own First (before ++ e ∷ []) before e refl (ap (λ (s : Seat). same_seat s First) is));
      second = has.second ∙ ap (λ (o : Option ℤ). unwrap_or o (pos 0)) (last_other Second (before ++ e ∷ []) before e refl (ap (λ (s : Seat). same_seat s Second) is));
    }
one_more t before e Second is has =
    record {
      first = has.first ∙ ap (λ (o : Option ℤ). unwrap_or o (pos 0)) (last_other First (before ++ e ∷ []) before e refl (ap (λ (s : Seat). same_seat s First) is));
      second = ap (λ (o : Option ℤ). unwrap_or o (pos 0)) (last_own Second (before ++ e ∷ []) before e refl (ap (λ (s : Seat). same_seat s Second) is));
    }

-- ---- a line after others

take_front : (xs ys : List Event) → take (length xs) (xs ++ ys) ≡ xs
take_front [] ys = refl
take_front (x ∷ xs) ys = ap (λ (rest : List Event). x ∷ rest) (take_front xs ys)

get_after : (xs : List Event) (y : Event) (ys : List Event) → slice_get (xs ++ y ∷ ys) (length xs) ≡ Some y
get_after [] y ys = refl
get_after (x ∷ xs) y ys = get_after xs y ys

-- its wrong numbers
here : (before passed : List Event) (t : Totals) (e r : Event) (written right : List Event) → length passed ≡ length before → Has t before
    → wrong_on missing.Nothing (had_of t e.player) e (numbers_in r) ≡ wrong_at None (before ++ e ∷ written) (passed ++ r ∷ right) (length before)
here before passed t e r written right as_many has =
    let all = before ++ e ∷ written in
    let due = passed ++ r ∷ right in
    let at : slice_get due (length before) ≡ Some r = ap (λ (k : ℕ). slice_get due k) (sym as_many) ∙ get_after passed r right in
    ap (λ (h : ℤ). wrong_on missing.Nothing h e (numbers_in r)) (had_is t before e.player has ∙ ap (had e.player) (sym (take_front before (e ∷ written))))
    ∙ ap (λ (o : Option Event). wrong_of None all (length before) (Some e) o) (sym at)
    ∙ ap (λ (o : Option Event). wrong_of None all (length before) o (slice_get due (length before))) (sym (get_after before e written))

-- ---- all lines, after those that went before

abbrev lines_after : (before passed written right : List Event) → List WrongNumber
lines_after before passed written right =
    flat_map (wrong_at None (before ++ written) (passed ++ right)) (range_with_len (length before) (min (length written) (length right)))

min_zero : (n : ℕ) → min zero n ≡ zero
min_zero n = omega arith

min_none : (n : ℕ) → min (suc n) zero ≡ zero
min_none n = omega arith

min_more : (m n : ℕ) → min (suc m) (suc n) ≡ suc (min m n)
min_more m n = omega arith

-- a line is one of those that went before
moved : (before passed : List Event) (e r : Event) (written right : List Event) → lines_after (before ++ e ∷ []) (passed ++ r ∷ []) written right
    ≡ flat_map (wrong_at None (before ++ e ∷ written) (passed ++ r ∷ right)) (range_with_len (length before + 1) (min (length written) (length right)))
moved before passed e r written right =
    let n = min (length written) (length right) in
    ap (λ (ws : List Event). flat_map (wrong_at None ws ((passed ++ r ∷ []) ++ right)) (range_with_len (length (before ++ e ∷ [])) n)) (append_assoc before (e ∷ []) written)
    ∙ ap (λ (rs : List Event). flat_map (wrong_at None (before ++ e ∷ written) rs) (range_with_len (length (before ++ e ∷ [])) n)) (append_assoc passed (r ∷ []) right)
    ∙ ap (λ (k : ℕ). flat_map (wrong_at None (before ++ e ∷ written) (passed ++ r ∷ right)) (range_with_len k n)) (length-append before (e ∷ []))

count_more : (before passed : List Event) (e r : Event) → length passed ≡ length before → length (passed ++ r ∷ []) ≡ length (before ++ e ∷ [])
count_more before passed e r as_many = length-append passed (r ∷ []) ∙ ap (λ (k : ℕ). k + 1) as_many ∙ sym (length-append before (e ∷ []))

same_from : (before passed : List Event) (t : Totals) (lacks : List Missing) (written right : List Event) → length passed ≡ length before → is_whole lacks ≡ true → Has t before
    → wrong_from t lacks written (map numbers_in right) ≡ lines_after before passed written right
same_from before passed t lacks [] right as_many whole has =
    sym (ap (λ (k : ℕ). flat_map (wrong_at None (before ++ []) (passed ++ right)) (range_with_len (length before) k)) (min_zero (length right)))
same_from before passed t lacks (e ∷ written) [] as_many whole has =
    sym (ap (λ (k : ℕ). flat_map (wrong_at None (before ++ e ∷ written) (passed ++ [])) (range_with_len (length before) k)) (min_none (length written)))
same_from before passed t lacks (e ∷ written) (r ∷ right) as_many whole has =
    let h = had_of t e.player in
    let n = numbers_in r in
    let wrong = wrong_at None (before ++ e ∷ written) (passed ++ r ∷ right) in
    let rest = same_from (before ++ e ∷ []) (passed ++ r ∷ []) (following t e.player e.total) (other_lacks lacks) written right (count_more before passed e r as_many) (others_are lacks whole)
    (one_more t before e e.player refl has) in
    ap (λ (m : Missing). wrong_on m h e n ++ wrong_from (following t e.player (total_on m h e n)) (other_lacks lacks) written (map numbers_in right)) (first_is lacks whole)
    ∙ ap (λ (xs : List WrongNumber). wrong_on missing.Nothing h e n ++ xs) (rest ∙ moved before passed e r written right)
    ∙ ap (λ (xs : List WrongNumber). xs ++ flat_map wrong (range_with_len (length before + 1) (min (length written) (length right)))) (here before passed t e r written right as_many has)
    ∙ sym (ap (λ (k : ℕ). flat_map wrong (range_with_len (length before) k)) (min_more (length written) (length right)))

pub whole_is_sheet : (lacks : List Missing) (written right : List Event) → is_whole lacks ≡ true → wrong_written lacks written (map numbers_in right) ≡ wrong_lines None written right
unfolding wrong_written wrong_lines
whole_is_sheet lacks written right whole = same_from [] [] nothing lacks written right refl whole (record { first = refl; second = refl })
