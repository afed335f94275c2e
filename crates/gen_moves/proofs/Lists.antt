-- Joins of lists: what is in them, what holds for each element, and that no two are equal.
use Rattle.std.proofs.Common.{◌≡◌, ◌≢◌, ℕ, suc, ◌+◌, ◌-◌, ◌<◌, ◌≤◌, Bool, true, List, [], ◌∷◌, ◌++◌, refl, sym, subst, arith, ⊎_elim}
use Rattle.std.specs.Prelude.{Contains, All}
use Rattle.std.specs.List.{AllPairs, list_all, flat_map, range_with_len}
use Rattle.std.proofs.lemmas.List.Elements.{All-nil, All-append, All-contains, All-weaker, All-contains_itself, Contains-append_left, Contains-append_right, Contains-append_cases}
use Rattle.std.proofs.lemmas.List.FromFn.{length-range_with_len, get_or-range_with_len}
use Rattle.std.proofs.lemmas.List.Kept.{AllPairs-cons}
use Rattle.std.proofs.lemmas.Bool.{and_from}
use Rattle.ref_play.proofs.RangeLaws.{Contains-here, Contains-there, Contains-cases}

pub list_all-each : {X : Type 0} (p : X → Bool) (xs : List X) → ((x : X) → Contains xs x → p x ≡ true) → list_all p xs ≡ true
list_all-each p [] h = refl
list_all-each p (x ∷ xs) h = and_from (p x) (list_all p xs) (h x (Contains-here x xs)) (list_all-each p xs (λ y c. h y (Contains-there x xs y c)))

pub All-each : {X : Type 0} (P : X → Type 0) (xs : List X) → ((x : X) → Contains xs x → P x) → All P xs
All-each P xs h = All-weaker (Contains xs) P h xs (All-contains_itself xs)

-- ---- joins
-- what is in one of the lists is in their join
pub in_join : {X A : Type 0} (f : X → List A) (xs : List X) (x : X) (a : A) → Contains xs x → Contains (f x) a → Contains (flat_map f xs) a
in_join f [] x a c h = absurd (omega (arith, c.1))
in_join f (y ∷ xs) x a c h =
    ⊎_elim
    (λ (s : y ≡ x). Contains-append_left (f y) (flat_map f xs) a (subst (λ z. Contains (f z) a) (sym s) h))
    (λ (s : Contains xs x). Contains-append_right (f y) (flat_map f xs) a (in_join f xs x a s h))
    (Contains-cases y xs x c)

-- and conversely
pub from_join : {X A : Type 0} (f : X → List A) (xs : List X) (a : A) → Contains (flat_map f xs) a → (x : X) × Contains xs x × Contains (f x) a
from_join f [] a c = absurd (omega (arith, c.1))
from_join f (x ∷ xs) a c =
    ⊎_elim
    (λ (s : Contains (f x) a). (x, Contains-here x xs, s))
    (λ (s : Contains (flat_map f xs) a). let rest = from_join f xs a s in (rest.0, Contains-there x xs rest.0 rest.1, rest.2))
    (Contains-append_cases (f x) (flat_map f xs) a c)

pub All-flat_map : {X A : Type 0} (P : A → Type 0) (f : X → List A) (xs : List X) → ((x : X) → Contains xs x → All P (f x)) → All P (flat_map f xs)
All-flat_map P f [] h = All-nil P
All-flat_map P f (x ∷ xs) h = All-append P (f x) (flat_map f xs) (h x (Contains-here x xs)) (All-flat_map P f xs (λ y c. h y (Contains-there x xs y c)))

pub All-flat_map-at : {X A : Type 0} (P : A → Type 0) (f : X → List A) (xs : List X) (x : X) → All P (flat_map f xs) → Contains xs x → All P (f x)
All-flat_map-at P f xs x all c = All-each P (f x) (λ a h. All-contains P (flat_map f xs) a all (in_join f xs x a c h))

-- ---- successive numbers
pub in_range : (a n k : ℕ) → a ≤ k → k < a + n → Contains (range_with_len a n) k
in_range a n k low high =
    let size = length-range_with_len a n in
    let at = get_or-range_with_len a n (k - a) k (omega arith) in
    (k - a, omega arith, omega arith)

pub from_range : (a n k : ℕ) → Contains (range_with_len a n) k → (a ≤ k) × (k < a + n)
from_range a n k (i, below, is) =
    let size = length-range_with_len a n in
    let at = get_or-range_with_len a n i k (omega arith) in
    (omega arith, omega arith)

pub range_differs : (a n : ℕ) → AllPairs (λ x y. x ≢ y) (range_with_len a n)
range_differs a n i j d less below e =
    let size = length-range_with_len a n in
    let at_i = get_or-range_with_len a n i d (omega arith) in
    let at_j = get_or-range_with_len a n j d (omega arith) in
    omega arith

-- ---- no two elements of a join are equal
pub AllPairs-append : {X : Type 0} (R : X → X → Type 0) (xs ys : List X) → AllPairs R xs → AllPairs R ys → ((x y : X) → Contains xs x → Contains ys y → R x y) → AllPairs R (xs ++ ys)
AllPairs-append R [] ys hx hy h = hy
AllPairs-append R (x ∷ xs) ys hx hy h =
    AllPairs-cons R x (xs ++ ys)
    (All-append (R x) xs ys
    (λ k d below. hx 0 (suc k) d (omega arith) (omega arith))
    (All-each (R x) ys (λ y c. h x y (Contains-here x xs) c)))
    (AllPairs-append R xs ys (λ i j d less below. hx (suc i) (suc j) d (omega arith) (omega arith)) hy (λ y z c e. h y z (Contains-there x xs y c) e))

pub AllPairs-flat_map : {X A : Type 0} (S : X → X → Type 0) (R : A → A → Type 0) (f : X → List A) (xs : List X) → AllPairs S xs → ((x : X) → Contains xs x → AllPairs R (f x))
    → ((x y : X) (a b : A) → Contains xs x → Contains xs y → S x y → Contains (f x) a → Contains (f y) b → R a b) → AllPairs R (flat_map f xs)
AllPairs-flat_map S R f [] hs hr h = λ i j d less below. absurd (omega arith)
AllPairs-flat_map S R f (x ∷ xs) hs hr h =
    let firsts : All (S x) xs = λ k d below. hs 0 (suc k) d (omega arith) (omega arith) in
    AllPairs-append R (f x) (flat_map f xs) (hr x (Contains-here x xs))
    (AllPairs-flat_map S R f xs (λ i j d less below. hs (suc i) (suc j) d (omega arith) (omega arith)) (λ y c. hr y (Contains-there x xs y c))
    (λ y z a b c e s ha hb. h y z a b (Contains-there x xs y c) (Contains-there x xs z e) s ha hb))
    (λ a b ha hb.
    let from = from_join f xs b hb in
    h x from.0 a b (Contains-here x xs) (Contains-there x xs from.0 from.1) (All-contains (S x) xs from.0 firsts from.1) ha from.2)
