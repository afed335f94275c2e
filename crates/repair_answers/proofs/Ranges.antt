-- Numbers one after the other.
use Rattle.std.proofs.Common.{◌≡◌, ℕ, zero, suc, ◌+◌, ◌-◌, ◌<◌, ◌≤◌, Bool, true, false, ◌&&◌, List, [], ◌∷◌, ◌++◌, length, take, refl, sym, ap, ◌∙◌, subst, arith, cond}
use Rattle.std.specs.List.{filter, flat_map, list_all, range_with_len}
use Rattle.std.proofs.lemmas.List.{append-nil, length-append, take_all}
use Rattle.std.proofs.lemmas.List.Concat.{flat_map-append}
use Rattle.std.proofs.lemmas.List.Elements.{filter-append}
use Rattle.std.proofs.lemmas.List.Folds.{list_all-append, list_all_at}
use Rattle.std.proofs.lemmas.List.FromFn.{length-range_with_len, get_or-range_with_len}

pub range_joined : (a n m : ℕ) → range_with_len a (n + m) ≡ range_with_len a n ++ range_with_len (a + n) m
range_joined a zero m =
    let e : 0 + m ≡ m = omega arith in
    let s : a ≡ a + 0 = omega arith in
    ap (range_with_len a) e ∙ ap (λ k. range_with_len k m) s
range_joined a (suc n) m =
    let e : suc n + m ≡ suc (n + m) = omega arith in
    let s : a + 1 + n ≡ a + suc n = omega arith in
    ap (range_with_len a) e ∙ ap (λ (xs : List ℕ). a ∷ xs) (range_joined (a + 1) n m) ∙ ap (λ k. a ∷ (range_with_len (a + 1) n ++ range_with_len k m)) s

pub range_more : (a n k : ℕ) → a + n ≡ k → range_with_len a (n + 1) ≡ range_with_len a n ++ k ∷ []
range_more a n k is = range_joined a n 1 ∙ ap (λ j. range_with_len a n ++ j ∷ []) is

pub filter_more : (p : ℕ → Bool) (a n k : ℕ) → a + n ≡ k → filter p (range_with_len a (n + 1)) ≡ filter p (range_with_len a n) ++ cond (p k) (k ∷ []) []
filter_more p a n k is = ap (filter p) (range_more a n k is) ∙ filter-append p (range_with_len a n) (k ∷ [])

-- one more number passes the test
pub filter_passed : (p : ℕ → Bool) (a n k : ℕ) → a + n ≡ k → p k ≡ true → filter p (range_with_len a (n + 1)) ≡ filter p (range_with_len a n) ++ k ∷ []
filter_passed p a n k is passes = filter_more p a n k is ∙ ap (λ b. filter p (range_with_len a n) ++ cond b (k ∷ []) []) passes

pub filter_failed : (p : ℕ → Bool) (a n k : ℕ) → a + n ≡ k → p k ≡ false → filter p (range_with_len a (n + 1)) ≡ filter p (range_with_len a n)
filter_failed p a n k is fails = filter_more p a n k is ∙ ap (λ b. filter p (range_with_len a n) ++ cond b (k ∷ []) []) fails ∙ append-nil (filter p (range_with_len a n))

-- the test holds for one more number, or it fails for one
pub all_more : (p : ℕ → Bool) (k : ℕ) → list_all p (range_with_len 0 k) ≡ true → p k ≡ true → list_all p (range_with_len 0 (k + 1)) ≡ true
all_more p k before here =
    ap (list_all p) (range_more 0 k k (omega arith)) ∙ list_all-append p (range_with_len 0 k) (k ∷ []) ∙ ap (λ b. b && (p k && true)) before ∙ ap (λ b. b && true) here

pub not_all : (p : ℕ → Bool) (k n : ℕ) → k < n → p k ≡ false → list_all p (range_with_len 0 n) ≡ false
not_all p k n less fails =
    let e : 0 + k ≡ k = omega arith in
    list_all_at p (range_with_len 0 n) k 0 (subst (λ m. k < m) (sym (length-range_with_len 0 n)) less) (ap p (get_or-range_with_len 0 n k 0 less ∙ e) ∙ fails)

take_front : {X : Type 0} (xs ys : List X) → take (length xs) (xs ++ ys) ≡ xs
take_front [] ys = refl
take_front {X} (x ∷ xs) ys = ap (λ (zs : List X). x ∷ zs) (take_front xs ys)

-- the first of the numbers that pass, if `most` of them were found already
pub first_passed : (p : ℕ → Bool) (k n most : ℕ) (xs : List ℕ) → k ≤ n → xs ≡ filter p (range_with_len 0 k) → length xs ≡ most → xs ≡ take most (filter p (range_with_len 0 n))
first_passed p k n most xs within is many =
    let rest : List ℕ = filter p (range_with_len k (n - k)) in
    let whole : k + (n - k) ≡ n = omega arith in
    let start : 0 + k ≡ k = omega arith in
    let all : filter p (range_with_len 0 n) ≡ xs ++ rest =
    ap (λ m. filter p (range_with_len 0 m)) (sym whole) ∙ ap (filter p) (range_joined 0 k (n - k) ∙ ap (λ j. range_with_len 0 k ++ range_with_len j (n - k)) start)
    ∙ filter-append p (range_with_len 0 k) (range_with_len k (n - k)) ∙ ap (λ ys. ys ++ rest) (sym is) in
    sym (ap (λ m. take m (filter p (range_with_len 0 n))) (sym many) ∙ ap (take (length xs)) all ∙ take_front xs rest)

pub all_passed : (p : ℕ → Bool) (n most : ℕ) (xs : List ℕ) → xs ≡ filter p (range_with_len 0 n) → length xs ≤ most → xs ≡ take most (filter p (range_with_len 0 n))
all_passed p n most xs is few = sym (ap (take most) (sym is) ∙ take_all most xs few)

-- lists for numbers one after the other
pub lists_more : {X : Type 0} (f : ℕ → List X) (k : ℕ) → length (flat_map f (range_with_len 0 (k + 1))) ≡ length (flat_map f (range_with_len 0 k)) + length (f k)
lists_more {X} f k =
    let more : flat_map f (range_with_len 0 (k + 1)) ≡ flat_map f (range_with_len 0 k) ++ f k =
    ap (flat_map f) (range_more 0 k k (omega arith)) ∙ flat_map-append f (range_with_len 0 k) (k ∷ []) ∙ ap (λ (xs : List X). flat_map f (range_with_len 0 k) ++ xs) (append-nil (f k)) in
    ap (λ (xs : List X). length xs) more ∙ length-append (flat_map f (range_with_len 0 k)) (f k)
