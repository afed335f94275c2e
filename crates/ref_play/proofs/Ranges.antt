-- Tests over successive numbers.
use Rattle.std.proofs.Common.{◌≡◌, ℕ, zero, suc, ◌+◌, ◌<◌, ◌≤◌, Bool, true, false, [], ◌∷◌, ◌++◌, map, refl, ap, ◌∙◌, subst, arith, ⊎_elim}
use Rattle.std.specs.List.{list_all, range_with_len}
use Rattle.std.proofs.lemmas.List.{map_push}
use Rattle.std.proofs.lemmas.Bool.{and_parts, and_from, both_ways, false_from_ne_true, cases_eq}

pub list_all_range : (f : ℕ → Bool) (a n : ℕ) → ((k : ℕ) → a ≤ k → k < a + n → f k ≡ true) → list_all f (range_with_len a n) ≡ true
list_all_range f a zero h = refl
list_all_range f a (suc n) h = and_from _ _ (h a (omega arith) (omega arith)) (list_all_range f (a + 1) n (λ k low high. h k (omega arith) (omega arith)))

pub each_of_range : (f : ℕ → Bool) (a n k : ℕ) → list_all f (range_with_len a n) ≡ true → a ≤ k → k < a + n → f k ≡ true
each_of_range f a zero k h low high = absurd (omega arith)
each_of_range f a (suc n) k h low high =
    let parts = and_parts (f a) (list_all f (range_with_len (a + 1) n)) h in
    ⊎_elim (λ (e : a ≡ k). subst (λ j. f j ≡ true) e parts.0) (λ (ne : a ≡ k → ⊥). each_of_range f (a + 1) n k parts.1 (omega arith) (omega arith)) (cases_eq a k)

pub list_all_range_false : (f : ℕ → Bool) (a n k : ℕ) → a ≤ k → k < a + n → f k ≡ false → list_all f (range_with_len a n) ≡ false
list_all_range_false f a n k low high empty =
    false_from_ne_true _ (λ yes. both_ways (f k) empty (each_of_range f a n k yes low high))

-- one more number
pub range_push : (a n : ℕ) → range_with_len a (suc n) ≡ range_with_len a n ++ (a + n) ∷ []
range_push a zero = let same : a ≡ a + 0 = omega arith in ap (λ k. k ∷ []) same
range_push a (suc n) =
    let same : a + 1 + n ≡ a + suc n = omega arith in
    ap (λ ks. a ∷ ks) (range_push (a + 1) n ∙ ap (λ k. range_with_len (a + 1) n ++ k ∷ []) same)

pub map_range_more : {X : Type 0} (f : ℕ → X) (n : ℕ) → map f (range_with_len 0 (n + 1)) ≡ map f (range_with_len 0 n) ++ f n ∷ []
map_range_more f n =
    let next : n + 1 ≡ suc n = omega arith in
    let same : 0 + n ≡ n = omega arith in
    ap (λ k. map f (range_with_len 0 k)) next ∙ ap (map f) (range_push 0 n) ∙ map_push f (range_with_len 0 n) (0 + n)
    ∙ ap (λ k. map f (range_with_len 0 n) ++ f k ∷ []) same
