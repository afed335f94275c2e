-- Lists that have each thing of a set once: joined, mapped, and what their elements are. And the rack, when the order in which
-- tiles are taken does not matter.
use Rattle.std.proofs.Common.{◌≡◌, ℕ, zero, suc, ◌+◌, ◌-◌, ◌<◌, ◌≤◌, Bool, true, false, ◌&&◌, ◌||◌, ◌==◌, nat_lt, if◌then◌else◌, List, [], ◌∷◌, map, length, get_or, refl, sym, ap, ◌∙◌, arith, ⊎_elim}
use Rattle.std.proofs.lemmas.Bool.{cases_eq, cases_Bool, ne_eqb, eq-eqb, ltb-true, lt-ltb, cases_lt, and_parts, and_from, or_cases, or_left, or_right, false_from_ne_true, false≢true}
use Rattle.std.proofs.lemmas.List.{get_or-set_same, get_or-set_other, get_or_past}
use Rattle.ref_tiles.proofs.Tallies.{tally, once, tally-append, tally-map}
use Rattle.gen_line.specs.Entries.{kind_of_entry, uses}
use Rattle.gen_line.specs.Model.{join_range, less}
use Rattle.gen_line.proofs.Tests.{same, Each}
use Rattle.gen_line.specs.Walk.{Every}
use Rattle.gen_line.proofs.Meaning.{rack_ok}
use Rattle.gen_line.proofs.Counts.{tally-and, once-or, once-and}

pub same-self : (x : List ℕ) → same x x ≡ true
same-self [] = refl
same-self (a ∷ x) = and_from (a == a) (same x x) (eq-eqb a a refl) (same-self x)

-- ---- joins

abbrev pub any_of : (ℕ → Bool) → ℕ → ℕ → Bool
any_of f from zero = false
any_of f from (suc n) = any_of f from n || f (from + n)

pub any_of-some : (f : ℕ → Bool) (from n : ℕ) → any_of f from n ≡ true → (i : ℕ) × (from ≤ i) × (i < from + n) × (f i ≡ true)
any_of-some f from zero e = absurd (false≢true e)
any_of-some f from (suc n) e =
    ⊎_elim
    (λ (h : any_of f from n ≡ true). let r = any_of-some f from n h in let below = r.2 in (r.0, r.1, omega arith, r.3))
    (λ (h : f (from + n) ≡ true). (from + n, omega arith, omega arith, h))
    (or_cases (any_of f from n) (f (from + n)) e)

pub any_of-from : (f : ℕ → Bool) (from n i : ℕ) → from ≤ i → i < from + n → f i ≡ true → any_of f from n ≡ true
any_of-from f from zero i low high h = absurd (omega arith)
any_of-from f from (suc n) i low high h =
    ⊎_elim
    (λ (e : i ≡ from + n). or_right (any_of f from n) (f (from + n)) (ap f (sym e) ∙ h))
    (λ (ne : i ≡ from + n → ⊥). or_left (any_of f from n) (f (from + n)) (any_of-from f from n i low (omega arith) h))
    (cases_eq i (from + n))

-- lists of disjoint sets, joined
pub each-join : (f : ℕ → List ℕ → Bool) (xs : ℕ → List (List ℕ)) (from n : ℕ)
    → ((i : ℕ) → from ≤ i → i < from + n → Each (f i) (xs i))
    → ((i j : ℕ) (x : List ℕ) → f i x ≡ true → f j x ≡ true → i ≡ j)
    → Each (λ x. any_of (λ i. f i x) from n) (join_range xs from n)
each-join f xs from zero each apart x = refl
each-join f xs from (suc n) each apart x =
    tally-append (same x) (join_range xs from n) (xs (from + n))
    ∙ (let front = each-join f xs from n (λ i a b. each i a (omega arith)) apart x in
    let last = each (from + n) (omega arith) (omega arith) x in
    let both = once-or (any_of (λ i. f i x) from n) (f (from + n) x)
    (λ h. false_from_ne_true (f (from + n) x)
    (λ t. let r = any_of-some (λ i. f i x) from n h in
    let is = apart r.0 (from + n) x r.3 t in
    let below = r.2 in omega arith)) in
    omega arith)

-- ---- elements

every_from : (f : List ℕ → Bool) (xs : List (List ℕ)) → ((x : List ℕ) → 0 < tally (same x) xs → f x ≡ true) → Every (λ x. f x ≡ true) xs
every_from f [] h = tt
every_from f (x ∷ xs) h =
    (h x (rw (same-self x) (omega arith)), every_from f xs (λ y some. h y (omega arith)))

pub every-each : (f : List ℕ → Bool) (xs : List (List ℕ)) → Each f xs → Every (λ x. f x ≡ true) xs
every-each f xs each =
    every_from f xs
    (λ x some. ⊎_elim
    (λ (y : f x ≡ true). y)
    (λ (n : f x ≡ false). let none = each x ∙ ap once n in absurd (omega arith))
    (cases_Bool (f x)))

tally-agree : (p q : List ℕ → Bool) (f : List ℕ → Bool) → ((x : List ℕ) → f x ≡ true → p x ≡ q x)
    → (xs : List (List ℕ)) → Every (λ x. f x ≡ true) xs → tally p xs ≡ tally q xs
tally-agree p q f h [] all = refl
tally-agree p q f h (x ∷ xs) all = rw (h x all.0) (ap (λ n. once (q x) + n) (tally-agree p q f h xs all.1))

-- through a map that can be undone on the set
pub each-map : (f : List ℕ → Bool) (xs : List (List ℕ)) (u w : List ℕ → List ℕ) (ok : List ℕ → Bool)
    → ((x y : List ℕ) → f x ≡ true → same y (u x) ≡ (ok y && same (w y) x))
    → Each f xs → Each (λ y. ok y && f (w y)) (map u xs)
each-map f xs u w ok undone each y =
    tally-map (same y) u xs
    ∙ tally-agree (λ x. same y (u x)) (λ x. ok y && same (w y) x) f (λ x t. undone x y t) xs (every-each f xs each)
    ∙ tally-and (ok y) (same (w y)) xs
    ∙ rw (each (w y)) (sym (once-and (ok y) (f (w y))))

-- ---- the rack

-- a kind of which there is a tile has a place in the rack
there : (rack : List ℕ) (k : ℕ) → 0 < get_or rack k 0 → k < length rack
there rack k some =
    ⊎_elim
    (λ (in' : k < length rack). in')
    (λ (past : length rack ≤ k). let none = get_or_past rack k 0 past in absurd (omega arith))
    (cases_lt k (length rack))

less-same : (rack : List ℕ) (e : ℕ) → 0 < get_or rack (kind_of_entry e) 0 → get_or (less rack e) (kind_of_entry e) 0 ≡ get_or rack (kind_of_entry e) 0 - 1
unfolding less
less-same rack e some = get_or-set_same rack (kind_of_entry e) (get_or rack (kind_of_entry e) 0 - 1) 0 (there rack (kind_of_entry e) some)

less-other : (rack : List ℕ) (e k : ℕ) → (kind_of_entry e ≡ k → ⊥) → get_or (less rack e) k 0 ≡ get_or rack k 0
unfolding less
less-other rack e k ne = get_or-set_other rack (kind_of_entry e) k (get_or rack (kind_of_entry e) 0 - 1) 0 (λ s. ne (sym s))

pub rack_ok-uses : (rack os : List ℕ) → rack_ok rack os ≡ true → (k : ℕ) → uses k os ≤ get_or rack k 0
rack_ok-uses rack [] ok k = omega arith
rack_ok-uses rack (e ∷ os) ok k = by (e == 0) ok (rack_ok-uses rack os) (rack_ok-uses (less rack e) os)
  where
    by : (b : Bool) → (if b then rack_ok rack os else nat_lt 0 (get_or rack (kind_of_entry e) 0) && rack_ok (less rack e) os) ≡ true
        → (rack_ok rack os ≡ true → (k : ℕ) → uses k os ≤ get_or rack k 0)
        → (rack_ok (less rack e) os ≡ true → (k : ℕ) → uses k os ≤ get_or (less rack e) k 0)
        → (if b then uses k os else (if kind_of_entry e == k then 1 else 0) + uses k os) ≤ get_or rack k 0
    by true h same_rack less_rack = same_rack h k
    by false h same_rack less_rack =
        let parts = and_parts (nat_lt 0 (get_or rack (kind_of_entry e) 0)) (rack_ok (less rack e) os) h in
        let some = ltb-true 0 (get_or rack (kind_of_entry e) 0) parts.0 in
        let rest = less_rack parts.1 k in
        ⊎_elim
        (λ (s : kind_of_entry e ≡ k).
        let taken = less-same rack e some in
        let at = ap (λ i. get_or rack i 0) s in
        let at_less = ap (λ i. get_or (less rack e) i 0) s in
        rw (eq-eqb (kind_of_entry e) k s) (omega arith))
        (λ (ne : kind_of_entry e ≡ k → ⊥).
        let kept = less-other rack e k ne in
        rw (ne_eqb (kind_of_entry e) k ne) (omega arith))
        (cases_eq (kind_of_entry e) k)

pub uses-rack_ok : (rack os : List ℕ) → ((k : ℕ) → uses k os ≤ get_or rack k 0) → rack_ok rack os ≡ true
uses-rack_ok rack [] h = refl
uses-rack_ok rack (e ∷ os) h = by (e == 0) h (uses-rack_ok rack os) (uses-rack_ok (less rack e) os)
  where
    by : (b : Bool) → ((k : ℕ) → (if b then uses k os else (if kind_of_entry e == k then 1 else 0) + uses k os) ≤ get_or rack k 0)
        → (((k : ℕ) → uses k os ≤ get_or rack k 0) → rack_ok rack os ≡ true)
        → (((k : ℕ) → uses k os ≤ get_or (less rack e) k 0) → rack_ok (less rack e) os ≡ true)
        → (if b then rack_ok rack os else nat_lt 0 (get_or rack (kind_of_entry e) 0) && rack_ok (less rack e) os) ≡ true
    by true u same_rack less_rack = same_rack u
    by false u same_rack less_rack =
        let here = rw (eq-eqb (kind_of_entry e) (kind_of_entry e) refl) at (u (kind_of_entry e)) in
        let some : 0 < get_or rack (kind_of_entry e) 0 = omega arith in
        and_from (nat_lt 0 (get_or rack (kind_of_entry e) 0)) (rack_ok (less rack e) os) (lt-ltb 0 (get_or rack (kind_of_entry e) 0) some)
        (less_rack (λ k. ⊎_elim
        (λ (s : kind_of_entry e ≡ k).
        let taken = less-same rack e some in
        let used = rw (eq-eqb (kind_of_entry e) k s) at (u k) in
        let at = ap (λ i. get_or rack i 0) s in
        let at_less = ap (λ i. get_or (less rack e) i 0) s in
        omega arith)
        (λ (ne : kind_of_entry e ≡ k → ⊥).
        let kept = less-other rack e k ne in
        let used = rw (ne_eqb (kind_of_entry e) k ne) at (u k) in
        omega arith)
        (cases_eq (kind_of_entry e) k)))
