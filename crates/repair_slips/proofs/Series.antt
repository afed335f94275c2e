-- Lists that a loop makes, one number after another.
use Rattle.std.proofs.Common.{◌≡◌, ℕ, zero, suc, ◌+◌, List, [], ◌++◌, refl, sym, ap, ◌∙◌, arith}
use Rattle.std.specs.List.{flat_map, range_with_len}
use Rattle.std.proofs.lemmas.List.{append_assoc, append-nil}
use Rattle.repair_slips.specs.Each.{lists_below}

last_of_range : {A : Type 0} (f : ℕ → List A) (a n : ℕ) → flat_map f (range_with_len a (suc n)) ≡ flat_map f (range_with_len a n) ++ f (a + n)
last_of_range f a zero = append-nil (f a) ∙ ap f (omega arith)
last_of_range {A} f a (suc n) =
    ap (λ (xs : List A). f a ++ xs) (last_of_range f (a + 1) n) ∙ sym (append_assoc (f a) (flat_map f (range_with_len (a + 1) n)) (f (a + 1 + n)))
    ∙ ap (λ k. (f a ++ flat_map f (range_with_len (a + 1) n)) ++ f k) (omega arith)

-- no number is below 0
none_below : {A : Type 0} (f : ℕ → List A) → lists_below f 0 ≡ []
unfolding lists_below
none_below f = refl

-- one more number
one_more : {A : Type 0} (f : ℕ → List A) (n : ℕ) → lists_below f (n + 1) ≡ lists_below f n ++ f n
unfolding lists_below
one_more {A} f n =
    let step : n + 1 ≡ suc n = omega arith in
    let start : 0 + n ≡ n = omega arith in
    ap (λ k. flat_map f (range_with_len 0 k)) step ∙ last_of_range f 0 n ∙ ap (λ k. flat_map f (range_with_len 0 n) ++ f k) start

-- the same for a list that begins with others
pub added : {A : Type 0} (f : ℕ → List A) (n : ℕ) (front old new : List A) → old ≡ front ++ lists_below f n → new ≡ old ++ f n → new ≡ front ++ lists_below f (n + 1)
added {A} f n front old new so_far more =
    more ∙ ap (λ (xs : List A). xs ++ f n) so_far ∙ append_assoc front (lists_below f n) (f n) ∙ ap (λ (xs : List A). front ++ xs) (sym (one_more f n))

-- before the first
pub begun : {A : Type 0} (f : ℕ → List A) (front : List A) → front ≡ front ++ lists_below f 0
begun {A} f front = sym (ap (λ (xs : List A). front ++ xs) (none_below f) ∙ append-nil front)
