-- A missing line with the numbers that it would have on the sheet.
use Rattle.std.proofs.Common.{◌≡◌, ℕ, ℤ, zero, suc, ◌+◌, ◌≤◌, Bool, true, false, nat_le, List, [], ◌∷◌, ◌++◌, map, length, take, drop, set, slice_get, Some, None, refl, sym, ap, ◌∙◌, arith, if◌then◌else◌}
use Rattle.std.proofs.lemmas.Bool.{leb-true, leb-false}
use Rattle.std.proofs.lemmas.Option.{same_Some, slice_get_within}
use Rattle.gcg_read.specs.declared.events.Event.{Event}
use Rattle.game_corrections.specs.WrongNumbers.{had_before}
use Rattle.game_corrections.proofs.Mends.{set_there}
use Rattle.repair_changes.specs.Splices.{spliced}
use Rattle.repair_single.specs.OnSheet.{total_after, score_in, line_on_sheet}

one_changed : (f : Event → Event) (xs : List Event) (place : ℕ) (x : Event) → slice_get xs place ≡ Some x
    → take place xs ++ map f (take 1 (drop place xs)) ++ drop (place + 1) xs ≡ set xs place (f x)
one_changed f [] place x at = cc
one_changed f (y ∷ ys) zero x at = ap (λ (z : Event). f z ∷ ys) (same_Some y x at)
one_changed f (y ∷ ys) (suc place) x at =
    let step : suc place + 1 ≡ suc (place + 1) = omega arith in
    ap (λ (n : ℕ). y ∷ take place ys ++ map f (take 1 (drop place ys)) ++ drop n (y ∷ ys)) step ∙ ap (λ (zs : List Event). y ∷ zs) (one_changed f ys place x at)

one_by : (f : Event → Event) (xs : List Event) (place : ℕ) (x : Event) (b : Bool) → nat_le (place + 1) (length xs) ≡ b → slice_get xs place ≡ Some x
    → (if b then take place xs ++ map f (take 1 (drop place xs)) ++ drop (place + 1) xs else xs) ≡ set xs place (f x)
one_by f xs place x true enough at = one_changed f xs place x at
one_by f xs place x false short at = let within = slice_get_within xs place x at in let past = leb-false (place + 1) (length xs) short in absurd (omega (arith, within, past))

pub one_spliced : (f : Event → Event) (xs : List Event) (place : ℕ) (x : Event) → slice_get xs place ≡ Some x → spliced place 1 (map f) xs ≡ set xs place (f x)
unfolding spliced
one_spliced f xs place x at = one_by f xs place x (nat_le (place + 1) (length xs)) refl at

none_there : (xs : List Event) (place : ℕ) → place + 1 ≤ length xs → slice_get xs place ≡ None → ⊥
none_there [] place within none = absurd (omega (arith, within))
none_there (x ∷ xs) zero within none = cc
none_there (x ∷ xs) (suc place) within none = none_there xs place (omega (arith, within)) none

none_by : (f : Event → Event) (xs : List Event) (place : ℕ) (b : Bool) → nat_le (place + 1) (length xs) ≡ b → slice_get xs place ≡ None
    → (if b then take place xs ++ map f (take 1 (drop place xs)) ++ drop (place + 1) xs else xs) ≡ xs
none_by f xs place false short at = refl
none_by f xs place true enough at = absurd (none_there xs place (leb-true (place + 1) (length xs) enough) at)

pub none_spliced : (f : Event → Event) (xs : List Event) (place : ℕ) → slice_get xs place ≡ None → spliced place 1 (map f) xs ≡ xs
unfolding spliced
none_spliced f xs place at = none_by f xs place (nat_le (place + 1) (length xs)) refl at

set_twice : (events : List Event) (place : ℕ) (x y : Event) → set (set events place x) place y ≡ set events place y
set_twice [] place x y = refl
set_twice (e ∷ events) zero x y = refl
set_twice (e ∷ events) (suc place) x y = ap (λ (rest : List Event). e ∷ rest) (set_twice events place x y)

-- the score and then the total are written
pub line_written : (sheet right scored new : List Event) (place : ℕ) (e : Event) (score total : ℤ) → slice_get sheet place ≡ Some e → score ≡ score_in (slice_get right place)
    → total ≡ total_after (had_before sheet e.player place) score
    → ((x : Event) → slice_get sheet place ≡ Some x → scored ≡ set sheet place (record x { score = score }))
    → ((x : Event) → slice_get scored place ≡ Some x → new ≡ set scored place (record x { total = total }))
    → new ≡ spliced place 1 (map (line_on_sheet sheet right place)) sheet
line_written sheet right scored new place e score total at is_score is_total first second =
    let x : Event = record e { score = score } in
    let made = first e at in
    let there : slice_get scored place ≡ Some x = ap (λ (es : List Event). slice_get es place) made ∙ set_there sheet place e x at in
    let had = had_before sheet e.player place in
    second x there ∙ ap (λ (es : List Event). set es place (record e { score = score; total = total })) made
    ∙ set_twice sheet place x (record e { score = score; total = total })
    ∙ ap (λ (n : ℤ). set sheet place (record e { score = score; total = n })) is_total
    ∙ ap (λ (n : ℤ). set sheet place (record e { score = n; total = total_after had n })) is_score
    ∙ sym (one_spliced (line_on_sheet sheet right place) sheet place e at)
