-- The lines of a text, one after another.
use Rattle.std.proofs.Common.{◌≡◌, ℕ, zero, suc, ◌+◌, ◌-◌, ◌≤◌, List, [], ◌∷◌, length, drop, slice_get, Some, None, refl, sym, ap, ◌∙◌, arith}
use Rattle.std.proofs.lemmas.List.{length-drop}
use Rattle.std.proofs.lemmas.Option.{slice_get_past}

get_dropped : (xs : List (List ℕ)) (k : ℕ) → slice_get xs k ≡ slice_get (drop k xs) 0
get_dropped xs zero = refl
get_dropped [] (suc k) = refl
get_dropped (x ∷ xs) (suc k) = get_dropped xs k

drop_one : (xs : List (List ℕ)) (k : ℕ) → drop (suc k) xs ≡ drop 1 (drop k xs)
drop_one xs zero = refl
drop_one [] (suc k) = refl
drop_one (x ∷ xs) (suc k) = drop_one xs k

-- no line is left
pub none_remaining : (xs : List (List ℕ)) (k n : ℕ) → [] ≡ drop k xs → k ≤ n → None ≡ slice_get xs n
none_remaining xs k n e below =
    let none : length xs - k ≡ 0 = sym (ap length e ∙ length-drop k xs) in
    sym (slice_get_past xs n (omega (arith, none, below)))

-- a line is left, and those after it
pub more_remaining : (xs rest ys : List (List ℕ)) (y : List ℕ) (k : ℕ) → rest ≡ drop k xs → rest ≡ y ∷ ys → ys ≡ drop (k + 1) xs
more_remaining xs rest ys y k e is =
    let next : suc k ≡ k + 1 = omega arith in
    ap (drop 1) (sym is ∙ e) ∙ sym (drop_one xs k) ∙ ap (λ j. drop j xs) next

-- the line there
pub one_remaining : (xs rest ys : List (List ℕ)) (y : List ℕ) (k : ℕ) → rest ≡ drop k xs → rest ≡ y ∷ ys → Some y ≡ slice_get xs k
one_remaining xs rest ys y k e is = ap (λ l. slice_get l 0) (sym is ∙ e) ∙ sym (get_dropped xs k)
