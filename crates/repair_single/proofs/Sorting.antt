-- A stable sort by what candidates cost keeps the order of the list among equal costs.
use Rattle.std.proofs.Common.{◌≡◌, ◌⊎◌, inl, inr, ℕ, zero, suc, ◌<◌, ◌≤◌, Bool, true, false, not, ◌&&◌, List, [], ◌∷◌, length, get_or, refl, sym, subst, arith}
use Rattle.std.specs.Prelude.{AllPairs, Contains}
use Rattle.std.specs.List.{filter}
use Rattle.std.specs.List.Sorted.{IsNonDecreasingBy, IsStableByKey, ties}
use Rattle.std.specs.Ordering.{nat_cmp, is_lt}
use Rattle.std.proofs.lemmas.Bool.Decides.{nat_tests}
use Rattle.std.proofs.lemmas.Bool.{cases_lt}
use Rattle.std.proofs.lemmas.List.Kept.{AllPairs-filter}

-- ---- what passes a test

pairs_tail : {X : Type 0} (R : X → X → Type 0) (x : X) (xs : List X) → AllPairs R (x ∷ xs) → AllPairs R xs
pairs_tail R x xs all = λ i j d less within. all (suc i) (suc j) d (omega (arith, less)) (omega (arith, within))

pairs_head : {X : Type 0} (R : X → X → Type 0) (x y : X) (xs : List X) → AllPairs R (x ∷ xs) → Contains xs y → R x y
pairs_head R x y xs all (k, within, at) = subst (R x) at (all 0 (suc k) y (omega arith) (omega (arith, within)))

passes : {X : Type 0} (p : X → Bool) (x : X) (xs : List X) → p x ≡ true → filter p (x ∷ xs) ≡ x ∷ filter p xs
passes p x xs is = rw is refl

fails : {X : Type 0} (p : X → Bool) (x : X) (xs : List X) → p x ≡ false → filter p (x ∷ xs) ≡ filter p xs
fails p x xs is = rw is refl

contains_after : {X : Type 0} (x y : X) (xs : List X) → Contains xs y → Contains (x ∷ xs) y
contains_after x y xs (k, within, at) = (suc k, omega (arith, within), at)

kept_after : {X : Type 0} (p : X → Bool) (x y : X) (xs : List X) (b : Bool) → p x ≡ b → Contains (filter p xs) y → Contains (filter p (x ∷ xs)) y
kept_after p x y xs true is there = subst (λ zs. Contains zs y) (sym (passes p x xs is)) (contains_after x y (filter p xs) there)
kept_after p x y xs false is there = subst (λ zs. Contains zs y) (sym (fails p x xs is)) there

pub kept_there : {X : Type 0} (p : X → Bool) (xs : List X) (j : ℕ) (d : X) → j < length xs → p (get_or xs j d) ≡ true → Contains (filter p xs) (get_or xs j d)
kept_there p [] j d within is = absurd (omega (arith, within))
kept_there {X} p (x ∷ xs) zero d within is = subst (λ (zs : List X). Contains zs x) (sym (passes p x xs is)) (0, omega arith, refl)
kept_there p (x ∷ xs) (suc j) d within is = kept_after p x (get_or xs j d) xs (p x) refl (kept_there p xs j d (omega (arith, within)) is)

kept_tail : {X : Type 0} (R : X → X → Type 0) (p : X → Bool) (x : X) (xs : List X) (b : Bool) → p x ≡ b → AllPairs R (filter p (x ∷ xs)) → AllPairs R (filter p xs)
kept_tail R p x xs true is all = pairs_tail R x (filter p xs) (subst (AllPairs R) (passes p x xs is) all)
kept_tail R p x xs false is all = subst (AllPairs R) (fails p x xs is) all

-- two elements that pass a test are in the order of all that pass
pub kept_pair : {X : Type 0} (R : X → X → Type 0) (p : X → Bool) (xs : List X) (i j : ℕ) (d : X) → AllPairs R (filter p xs) → i < j → j < length xs
    → p (get_or xs i d) ≡ true → p (get_or xs j d) ≡ true → R (get_or xs i d) (get_or xs j d)
kept_pair R p [] i j d all less within is_i is_j = absurd (omega (arith, within))
kept_pair R p (x ∷ xs) i zero d all less within is_i is_j = absurd (omega (arith, less))
kept_pair R p (x ∷ xs) zero (suc j) d all less within is_i is_j =
    pairs_head R x (get_or xs j d) (filter p xs) (subst (AllPairs R) (passes p x xs is_i) all) (kept_there p xs j d (omega (arith, within)) is_j)
kept_pair R p (x ∷ xs) (suc i) (suc j) d all less within is_i is_j =
    kept_pair R p xs i j d (kept_tail R p x xs (p x) refl all) (omega (arith, less)) (omega (arith, within)) is_i is_j

-- ---- a stable sort by a number

tie : (m n : ℕ) → m ≡ n → (not (is_lt (nat_cmp m n)) && not (is_lt (nat_cmp n m))) ≡ true
tie m n same = grind (arith, nat_tests)

either : {X : Type 0} (R : X → X → Type 0) (n : X → ℕ) (xs ys : List X) (i j : ℕ) (d : X) → AllPairs R xs → IsStableByKey n nat_cmp xs ys → i < j → j < length ys
    → n (get_or ys i d) ≤ n (get_or ys j d) → (n (get_or ys i d) < n (get_or ys j d)) ⊎ (n (get_or ys j d) ≤ n (get_or ys i d))
    → (n (get_or ys i d) < n (get_or ys j d)) ⊎ ((n (get_or ys i d) ≡ n (get_or ys j d)) × R (get_or ys i d) (get_or ys j d))
either R n xs ys i j d all stable less within rises (inl below) = inl below
either {X} R n xs ys i j d all stable less within rises (inr not_below) =
    let x : X = get_or ys i d in
    let p : X → Bool = ties (λ a b. is_lt (nat_cmp (n a) (n b))) x in
    let same : n (get_or ys i d) ≡ n (get_or ys j d) = omega (arith, rises, not_below) in
    inr (
      same,
      kept_pair R p ys i j d (subst (AllPairs R) (sym (stable x)) (AllPairs-filter R p xs all)) less within (tie (n x) (n x) refl) (tie (n x) (n (get_or ys j d)) same),
    )

-- If a list is sorted stably by a number, that number rises, or it stays and the elements are in their old order.
pub sorted_pairs : {X : Type 0} (R : X → X → Type 0) (n : X → ℕ) (xs ys : List X) → AllPairs R xs → IsNonDecreasingBy n ys → IsStableByKey n nat_cmp xs ys
    → AllPairs (λ a b. (n a < n b) ⊎ ((n a ≡ n b) × R a b)) ys
sorted_pairs R n xs ys all rises stable =
    λ i j d less within.
    either R n xs ys i j d all stable less within (rises i j d (omega (arith, less)) within) (cases_lt (n (get_or ys i d)) (n (get_or ys j d)))
