-- Lists over a range of places: a join, a filter and a tally of it, if only one place counts.
use Rattle.std.proofs.Common.{◌≡◌, ℕ, zero, suc, ◌+◌, ◌<◌, ◌≤◌, Bool, true, false, cond, ◌&&◌, ◌==◌, List, [], ◌∷◌, ◌++◌, length, get_or, refl, sym, ap, ◌∙◌, arith, ◌⊎◌, inl, inr, ⊎_elim}
use Rattle.std.specs.Prelude.{filter, Contains, All}
use Rattle.std.specs.List.{flat_map, range_with_len, list_any, list_all, AllPairs}
use Rattle.std.proofs.lemmas.List.{append-nil}
use Rattle.std.proofs.lemmas.List.Elements.{All-nil, All-cons, All-append, Contains-get_or}
use Rattle.std.proofs.lemmas.List.Folds.{Any-from_list_any, list_any-from_Any}
use Rattle.std.proofs.lemmas.Bool.{cases_Bool, cases_eq, and_parts, or_parts, ne_eqb}
use Rattle.ref_tiles.proofs.Tallies.{once, tally, tally-append}

-- a join whose pieces are all empty
pub flat_map-none : {A : Type 0} (f : ℕ → List A) (a n : ℕ) → ((k : ℕ) → a ≤ k → k < a + n → f k ≡ []) → flat_map f (range_with_len a n) ≡ []
flat_map-none f a zero h = refl
flat_map-none f a (suc n) h =
    rw (h a (omega arith) (omega arith)) (flat_map-none f (a + 1) n (λ k p q. h k (omega arith) (omega arith)))

-- a join with one piece that is not empty
pub flat_map-only : {A : Type 0} (f : ℕ → List A) (a n m : ℕ) → a ≤ m → m < a + n
    → ((k : ℕ) → a ≤ k → k < a + n → (k ≡ m → ⊥) → f k ≡ []) → flat_map f (range_with_len a n) ≡ f m
flat_map-only f a zero m low high h = absurd (omega arith)
flat_map-only f a (suc n) m low high h =
    ⊎_elim
    (λ (e : a ≡ m).
    ap (λ xs. f a ++ xs) (flat_map-none f (a + 1) n (λ k p q. h k (omega arith) (omega arith) (λ s. omega arith)))
    ∙ append-nil (f a) ∙ ap f e)
    (λ (ne : a ≡ m → ⊥).
    rw (h a (omega arith) (omega arith) ne) (flat_map-only f (a + 1) n m (omega arith) (omega arith) (λ k p q. h k (omega arith) (omega arith))))
    (cases_eq a m)

pub filter-none : (p : ℕ → Bool) (a n : ℕ) → ((k : ℕ) → a ≤ k → k < a + n → p k ≡ false) → filter p (range_with_len a n) ≡ []
filter-none p a zero h = refl
filter-none p a (suc n) h =
    rw (h a (omega arith) (omega arith)) (filter-none p (a + 1) n (λ k b c. h k (omega arith) (omega arith)))

pub filter-only : (p : ℕ → Bool) (a n m : ℕ) → a ≤ m → m < a + n → p m ≡ true
    → ((k : ℕ) → a ≤ k → k < a + n → (k ≡ m → ⊥) → p k ≡ false) → filter p (range_with_len a n) ≡ m ∷ []
filter-only p a zero m low high yes' h = absurd (omega arith)
filter-only p a (suc n) m low high yes' h =
    ⊎_elim
    (λ (e : a ≡ m).
    let here : p a ≡ true = ap p e ∙ yes' in
    rw here (rw (filter-none p (a + 1) n (λ k b c. h k (omega arith) (omega arith) (λ s. omega arith))) (ap (λ (x : ℕ). x ∷ []) e)))
    (λ (ne : a ≡ m → ⊥).
    rw (h a (omega arith) (omega arith) ne) (filter-only p (a + 1) n m (omega arith) (omega arith) yes' (λ k b c. h k (omega arith) (omega arith))))
    (cases_eq a m)

pub tally-filter : {X : Type 0} (p q : X → Bool) (xs : List X) → tally p (filter q xs) ≡ tally (λ x. q x && p x) xs
tally-filter p q [] = refl
tally-filter p q (x ∷ xs) =
    elim (q x) as (λ b. tally p (cond b (x ∷ filter q xs) (filter q xs)) ≡ once (b && p x) + tally (λ y. q y && p y) xs)
    [ true ↦ ap (λ n. once (p x) + n) (tally-filter p q xs) | false ↦ tally-filter p q xs ∙ omega arith ]

pub tally-range_none : (p : ℕ → Bool) (a n : ℕ) → ((k : ℕ) → a ≤ k → k < a + n → p k ≡ false) → tally p (range_with_len a n) ≡ 0
tally-range_none p a zero h = refl
tally-range_none p a (suc n) h =
    rw (h a (omega arith) (omega arith)) (rw (tally-range_none p (a + 1) n (λ k b c. h k (omega arith) (omega arith))))

pub tally-range_only : (p : ℕ → Bool) (a n m : ℕ) → a ≤ m → m < a + n
    → ((k : ℕ) → a ≤ k → k < a + n → (k ≡ m → ⊥) → p k ≡ false) → tally p (range_with_len a n) ≡ once (p m)
tally-range_only p a zero m low high h = absurd (omega arith)
tally-range_only p a (suc n) m low high h =
    ⊎_elim
    (λ (e : a ≡ m).
    let rest = tally-range_none p (a + 1) n (λ k b c. h k (omega arith) (omega arith) (λ s. omega arith)) in
    rw rest (rw e (omega arith)))
    (λ (ne : a ≡ m → ⊥).
    rw (h a (omega arith) (omega arith) ne)
    (let rest = tally-range_only p (a + 1) n m (omega arith) (omega arith) (λ k b c. h k (omega arith) (omega arith)) in omega arith))
    (cases_eq a m)

pub tally-flat_map_none : {A : Type 0} (p : A → Bool) (f : ℕ → List A) (a n : ℕ)
    → ((k : ℕ) → a ≤ k → k < a + n → tally p (f k) ≡ 0) → tally p (flat_map f (range_with_len a n)) ≡ 0
tally-flat_map_none p f a zero h = refl
tally-flat_map_none p f a (suc n) h =
    tally-append p (f a) (flat_map f (range_with_len (a + 1) n))
    ∙ (let here = h a (omega arith) (omega arith) in
    let rest = tally-flat_map_none p f (a + 1) n (λ k b c. h k (omega arith) (omega arith)) in omega arith)

pub tally-flat_map_only : {A : Type 0} (p : A → Bool) (f : ℕ → List A) (a n m : ℕ) → a ≤ m → m < a + n
    → ((k : ℕ) → a ≤ k → k < a + n → (k ≡ m → ⊥) → tally p (f k) ≡ 0) → tally p (flat_map f (range_with_len a n)) ≡ tally p (f m)
tally-flat_map_only p f a zero m low high h = absurd (omega arith)
tally-flat_map_only p f a (suc n) m low high h =
    tally-append p (f a) (flat_map f (range_with_len (a + 1) n))
    ∙ ⊎_elim
    (λ (e : a ≡ m).
    let rest = tally-flat_map_none p f (a + 1) n (λ k b c. h k (omega arith) (omega arith) (λ s. omega arith)) in
    rw rest (rw e (omega arith)))
    (λ (ne : a ≡ m → ⊥).
    let here = h a (omega arith) (omega arith) ne in
    let rest = tally-flat_map_only p f (a + 1) n m (omega arith) (omega arith) (λ k b c. h k (omega arith) (omega arith)) in omega arith)
    (cases_eq a m)

-- an element with a test that it passes
pub list_any-found : {X : Type 0} (p : X → Bool) (xs : List X) → list_any p xs ≡ true → (x : X) × Contains xs x × (p x ≡ true)
list_any-found p xs e = let a = Any-from_list_any p xs e in (a.1, (a.0, a.2, a.3), a.4)

pub list_any-in : {X : Type 0} (p : X → Bool) (xs : List X) (x : X) → Contains xs x → p x ≡ true → list_any p xs ≡ true
list_any-in p xs x c e = list_any-from_Any p xs (c.0, x, c.1, c.2, e)

-- what holds for each element of a filter, and of a join, over a range
pub All-filter_range : (P : ℕ → Type 0) (q : ℕ → Bool) (a n : ℕ) → ((k : ℕ) → a ≤ k → k < a + n → q k ≡ true → P k)
    → All P (filter q (range_with_len a n))
All-filter_range P q a zero h = All-nil P
All-filter_range P q a (suc n) h =
    let rest = All-filter_range P q (a + 1) n (λ k b c e. h k (omega arith) (omega arith) e) in
    ⊎_elim
    (λ (e : q a ≡ true). rw e (All-cons P a (filter q (range_with_len (a + 1) n)) (h a (omega arith) (omega arith) e) rest))
    (λ (e : q a ≡ false). rw e rest)
    (cases_Bool (q a))

pub All-flat_map_range : {A : Type 0} (P : A → Type 0) (f : ℕ → List A) (a n : ℕ) → ((k : ℕ) → a ≤ k → k < a + n → All P (f k))
    → All P (flat_map f (range_with_len a n))
All-flat_map_range P f a zero h = All-nil P
All-flat_map_range P f a (suc n) h =
    All-append P (f a) (flat_map f (range_with_len (a + 1) n)) (h a (omega arith) (omega arith))
    (All-flat_map_range P f (a + 1) n (λ k b c. h k (omega arith) (omega arith)))

-- an element that is tallied is in the list, and one that is in two places is tallied twice
pub Contains-from_tally : {X : Type 0} (p : X → Bool) (x : X) → ((y : X) → p y ≡ true → x ≡ y) → (xs : List X) → 0 < tally p xs → Contains xs x
Contains-from_tally p x same [] h = absurd (omega arith)
Contains-from_tally p x same (y ∷ xs) h =
    ⊎_elim
    (λ (e : p y ≡ true). (0, omega arith, sym (same y e)))
    (λ (e : p y ≡ false).
    let rest : 0 < tally p xs = (let z : once (p y) ≡ 0 = ap once e in omega arith) in
    let found = Contains-from_tally p x same xs rest in (suc found.0, omega (arith, found.1), found.2))
    (cases_Bool (p y))

tally-found : {X : Type 0} (p : X → Bool) (xs : List X) (i : ℕ) (d : X) → i < length xs → p (get_or xs i d) ≡ true → 0 < tally p xs
tally-found p [] i d h e = absurd (omega arith)
tally-found p (x ∷ xs) zero d h e = let z : once (p x) ≡ 1 = ap once e in omega arith
tally-found p (x ∷ xs) (suc i) d h e = let rest = tally-found p xs i d (omega arith) e in omega arith

tally-twice : {X : Type 0} (p : X → Bool) (xs : List X) (i j : ℕ) (d : X) → i < j → j < length xs
    → p (get_or xs i d) ≡ true → p (get_or xs j d) ≡ true → 1 < tally p xs
tally-twice p [] i j d h l e s = absurd (omega arith)
tally-twice p (x ∷ xs) i zero d h l e s = absurd (omega arith)
tally-twice p (x ∷ xs) zero (suc j) d h l e s =
    let rest = tally-found p xs j d (omega arith) s in
    let z : once (p x) ≡ 1 = ap once e in omega arith
tally-twice p (x ∷ xs) (suc i) (suc j) d h l e s = let rest = tally-twice p xs i j d (omega arith) (omega arith) e s in omega arith

-- if each element of a list is tallied once, no two are equal
pub AllPairs-from_tally : {X : Type 0} (same : X → X → Bool) → ((x y : X) → x ≡ y → same x y ≡ true) → (xs : List X)
    → ((x : X) → Contains xs x → tally (same x) xs ≡ 1) → AllPairs (λ x y. x ≡ y → ⊥) xs
AllPairs-from_tally same refl' xs h i j d b l e =
    let x = get_or xs i d in
    let two = tally-twice (same x) xs i j d b l (refl' x x refl) (refl' x (get_or xs j d) e) in
    let one = h x (Contains-get_or xs i d (omega arith)) in
    omega arith

-- where an element of a list with a first one is
pub Contains-cases : {X : Type 0} (y : X) (xs : List X) (x : X) → Contains (y ∷ xs) x → (y ≡ x) ⊎ Contains xs x
Contains-cases y xs x (zero, h, e) = inl e
Contains-cases y xs x (suc k, h, e) = inr (k, omega arith, e)

pub Contains-here : {X : Type 0} (x : X) (xs : List X) → Contains (x ∷ xs) x
Contains-here x xs = (0, omega arith, refl)

pub Contains-there : {X : Type 0} (y : X) (xs : List X) (x : X) → Contains xs x → Contains (y ∷ xs) x
Contains-there y xs x c = (suc c.0, omega (arith, c.1), c.2)

pub list_all-in : {X : Type 0} (p : X → Bool) (xs : List X) (x : X) → list_all p xs ≡ true → Contains xs x → p x ≡ true
list_all-in p [] x e c = absurd (omega (arith, c.1))
list_all-in p (y ∷ xs) x e c =
    let parts = and_parts (p y) (list_all p xs) e in
    ⊎_elim (λ (s : y ≡ x). ap p (sym s) ∙ parts.0) (λ (s : Contains xs x). list_all-in p xs x parts.1 s) (Contains-cases y xs x c)

pub list_any-none : {X : Type 0} (p : X → Bool) (P : X → Type 0) → ((x : X) → p x ≡ false → P x) → (xs : List X) → list_any p xs ≡ false → All P xs
list_any-none p P h [] e = All-nil P
list_any-none p P h (x ∷ xs) e =
    let parts = or_parts (p x) (list_any p xs) e in All-cons P x xs (h x parts.0) (list_any-none p P h xs parts.1)

-- a list that is not empty
pub some_element : {X : Type 0} (xs : List X) → (length xs == 0) ≡ false → (x : X) × Contains xs x
some_element [] e = cc
some_element (x ∷ xs) e = (x, Contains-here x xs)

pub not_empty : {X : Type 0} (xs : List X) (x : X) → Contains xs x → (length xs == 0) ≡ false
not_empty xs x c = ne_eqb (length xs) 0 (λ e. let h = c.1 in omega arith)
