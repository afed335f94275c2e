-- How often a list of entries is in the lists that the walk gives: once if it fits, otherwise never.
use Rattle.std.proofs.Common.{◌≡◌, ◌≢◌, ℕ, zero, suc, ◌+◌, ◌<◌, ◌≤◌, Bool, true, false, ◌&&◌, ◌||◌, ◌==◌, not, nat_lt, if◌then◌else◌, List, [], ◌∷◌, ◌++◌, map, length, refl, sym, ap, ◌∙◌, arith, ⊎_elim}
use Rattle.std.proofs.lemmas.Bool.{cases_eq, cases_Bool, cond_both, ne_eqb, eq-eqb, eqb-true, eqb-false, ltb-true, ltb-false, and_parts, and_right, false≢true}
use Rattle.std.proofs.lemmas.List.{map-id}
use Rattle.std.proofs.lemmas.Simd.{map-map}
use Rattle.std.proofs.Math.Bool.{and-true}
use Rattle.ref_tiles.proofs.Tallies.{tally, once, tally-append, tally-map, tally-never}
use Rattle.gen_line.specs.declared.cells.Cell.{Cell}
use Rattle.gen_line.specs.declared.cells.Cell.TheVariants.{Old, Free}
use Rattle.gen_line.specs.declared.cells.Open.{Open}
use Rattle.gen_line.specs.Entries.{label_of_entry}
use Rattle.gen_line.specs.Model.{join_range, zeros, after, longer, may, less, one_try, tries, leaf, right, starts_free, turn, left}
use Rattle.gen_line.proofs.Tests.{same, fits_right, fits_turn, after_zeros, fits_left, Each}

-- ---- tallies

pub tally-and : {X : Type 0} (b : Bool) (q : X → Bool) (xs : List X) → tally (λ x. b && q x) xs ≡ (if b then tally q xs else 0)
tally-and true q xs = refl
tally-and false q xs = tally-never (λ x. false) (λ x. refl) xs

-- no list with an entry in front is empty
pub tally-front_nil : (e : ℕ) (xs : List (List ℕ)) → tally (same []) (map (λ os. e ∷ os) xs) ≡ 0
tally-front_nil e [] = refl
tally-front_nil e (x ∷ xs) = let h = tally-front_nil e xs in omega arith

pub tally-front : (e d : ℕ) (os : List ℕ) (xs : List (List ℕ)) → tally (same (e ∷ os)) (map (λ t. d ∷ t) xs) ≡ (if e == d then tally (same os) xs else 0)
tally-front e d os xs = tally-map (same (e ∷ os)) (λ t. d ∷ t) xs ∙ tally-and (e == d) (same os) xs

-- a join of lists none of which counts
pub tally-join_none : {X : Type 0} (q : X → Bool) (f : ℕ → List X) (from n : ℕ)
    → ((i : ℕ) → from ≤ i → i < from + n → tally q (f i) ≡ 0) → tally q (join_range f from n) ≡ 0
tally-join_none q f from zero h = refl
tally-join_none q f from (suc n) h =
    tally-append q (join_range f from n) (f (from + n))
    ∙ (let rest = tally-join_none q f from n (λ i low high. h i low (omega arith)) in
    let last = h (from + n) (omega arith) (omega arith) in omega arith)

-- .. and of lists one of which counts
pub tally-join_one : {X : Type 0} (q : X → Bool) (f : ℕ → List X) (from n at : ℕ) → from ≤ at → at < from + n
    → ((i : ℕ) → from ≤ i → i < from + n → i ≢ at → tally q (f i) ≡ 0) → tally q (join_range f from n) ≡ tally q (f at)
tally-join_one q f from zero at low high h = absurd (omega arith)
tally-join_one q f from (suc n) at low high h =
    tally-append q (join_range f from n) (f (from + n))
    ∙ ⊎_elim
    (λ (e : from + n ≡ at).
    let rest = tally-join_none q f from n (λ i a b. h i a (omega arith) (λ s. omega arith)) in
    let here = ap (λ i. tally q (f i)) e in omega arith)
    (λ (ne : from + n ≡ at → ⊥).
    let last = h (from + n) (omega arith) (omega arith) ne in
    let rest = tally-join_one q f from n at low (omega arith) (λ i a b c. h i a (omega arith) c) in omega arith)
    (cases_eq (from + n) at)

-- ---- one entry in front

pub one_try-other : (m : Open) (rack : List ℕ) (f : ℕ → List (List ℕ)) (e d : ℕ) (os : List ℕ) → d ≢ e → tally (same (e ∷ os)) (one_try m rack f d) ≡ 0
one_try-other m rack f e d os ne =
    cond_both (may m rack d) (map (λ t. d ∷ t) (f d)) [] (λ l. tally (same (e ∷ os)) l ≡ 0)
    (λ y. tally-front e d os (f d) ∙ rw (ne_eqb e d (λ s. ne (sym s))))
    (λ n. refl)

pub one_try-same : (m : Open) (rack : List ℕ) (f : ℕ → List (List ℕ)) (e : ℕ) (os : List ℕ)
    → tally (same (e ∷ os)) (one_try m rack f e) ≡ (if may m rack e then tally (same os) (f e) else 0)
one_try-same m rack f e os =
    elim (may m rack e) as (λ b. tally (same (e ∷ os)) (if b then map (λ t. e ∷ t) (f e) else []) ≡ (if b then tally (same os) (f e) else 0))
    [ true ↦ tally-front e e os (f e) ∙ rw (eq-eqb e e refl) | false ↦ refl ]

one_try-nil : (m : Open) (rack : List ℕ) (f : ℕ → List (List ℕ)) (d : ℕ) → tally (same []) (one_try m rack f d) ≡ 0
one_try-nil m rack f d =
    cond_both (may m rack d) (map (λ t. d ∷ t) (f d)) [] (λ l. tally (same []) l ≡ 0) (λ y. tally-front_nil d (f d)) (λ n. refl)

pub tries-nil : (m : Open) (rack : List ℕ) (f : ℕ → List (List ℕ)) → tally (same []) (tries m rack f) ≡ 0
unfolding tries
tries-nil m rack f = tally-join_none (same []) (one_try m rack f) 1 52 (λ i low high. one_try-nil m rack f i)

pub tries-zero : (m : Open) (rack : List ℕ) (f : ℕ → List (List ℕ)) (os : List ℕ) → tally (same (0 ∷ os)) (tries m rack f) ≡ 0
unfolding tries
tries-zero m rack f os = tally-join_none (same (0 ∷ os)) (one_try m rack f) 1 52 (λ i low high. one_try-other m rack f 0 i os (λ s. omega arith))

pub tries-some : (m : Open) (rack : List ℕ) (f : ℕ → List (List ℕ)) (e : ℕ) (os : List ℕ) → 0 < e → e < 53
    → tally (same (e ∷ os)) (tries m rack f) ≡ (if may m rack e then tally (same os) (f e) else 0)
unfolding tries
tries-some m rack f e os low high =
    tally-join_one (same (e ∷ os)) (one_try m rack f) 1 52 e (omega arith) (omega arith) (λ i a b ne. one_try-other m rack f e i os ne)
    ∙ one_try-same m rack f e os

pub tries-none : (m : Open) (rack : List ℕ) (f : ℕ → List (List ℕ)) (e : ℕ) (os : List ℕ) → 53 ≤ e → tally (same (e ∷ os)) (tries m rack f) ≡ 0
unfolding tries
tries-none m rack f e os high = tally-join_none (same (e ∷ os)) (one_try m rack f) 1 52 (λ i a b. one_try-other m rack f e i os (λ s. omega arith))

-- an entry inside the range or beyond it
pub tries-any : (m : Open) (rack : List ℕ) (f : ℕ → List (List ℕ)) (e : ℕ) (os : List ℕ) → 0 < e
    → tally (same (e ∷ os)) (tries m rack f) ≡ (if nat_lt e 53 && may m rack e then tally (same os) (f e) else 0)
tries-any m rack f e os low =
    ⊎_elim
    (λ (t : nat_lt e 53 ≡ true). tries-some m rack f e os low (ltb-true e 53 t) ∙ rw t)
    (λ (t : nat_lt e 53 ≡ false). tries-none m rack f e os (ltb-false e 53 t) ∙ rw t)
    (cases_Bool (nat_lt e 53))

-- ---- tests

pub once-and : (a b : Bool) → once (a && b) ≡ (if a then once b else 0)
once-and true b = refl
once-and false b = refl

pub once-false : (a : Bool) → a ≡ false → once a ≡ 0
once-false a e = ap once e

pub once-or : (a b : Bool) → (a ≡ true → b ≡ false) → once a + once b ≡ once (a || b)
once-or true b h = rw (h refl)
once-or false b h = omega arith

-- one list, or none
pub tally-leaf : (ok : Bool) (n : ℕ) (x : List ℕ) → tally (same x) (leaf ok n) ≡ once (ok && same x (zeros n))
tally-leaf true n x = omega arith
tally-leaf false n x = refl

pub same-true : (x y : List ℕ) → same x y ≡ true → x ≡ y
same-true [] [] e = refl
same-true [] (b ∷ y) e = absurd (false≢true e)
same-true (a ∷ x) [] e = absurd (false≢true e)
same-true (a ∷ x) (b ∷ y) e =
    let parts = and_parts (a == b) (same x y) e in
    let first = eqb-true a b parts.0 in
    let rest = same-true x y parts.1 in cc

-- ---- to the right

-- the lists with an entry in front that a test allows after it
pub tries-each : (m : Open) (rack : List ℕ) (f : ℕ → List (List ℕ)) (e : ℕ) (os : List ℕ) (fit : Bool) → tally (same os) (f e) ≡ once fit
    → tally (same (e ∷ os)) (tries m rack f) ≡ once (not (e == 0) && ((nat_lt e 53 && may m rack e) && fit))
tries-each m rack f e os fit each =
    ⊎_elim
    (λ (z : (e == 0) ≡ true). let zero_first = eqb-true e 0 z in rw zero_first (tries-zero m rack f os))
    (λ (z : (e == 0) ≡ false).
    let some = eqb-false e 0 z in
    tries-any m rack f e os (omega arith) ∙ rw (each, z) (sym (once-and (nat_lt e 53 && may m rack e) fit)))
    (cases_Bool (e == 0))

-- lists that have no new tile here, and those that have one
either : (q : List ℕ → Bool) (ends more : List (List ℕ)) (b end go : Bool) → tally q ends ≡ once (b && end) → tally q more ≡ once (not b && go)
    → tally q (ends ++ more) ≡ once (if b then end else go)
either q ends more true end go e m = tally-append q ends more ∙ omega arith
either q ends more false end go e m = tally-append q ends more ∙ omega arith

and_swap : (a b c : Bool) → (a && (b && c)) ≡ (b && (a && c))
and_swap true b c = refl
and_swap false true c = refl
and_swap false false c = refl

-- the lists to the right are those that fit, each once
pub each-right : (g : List ℕ → Bool) (cs : List Cell) (rack : List ℕ) → Each (fits_right g cs rack) (right g cs rack)
unfolding right fits_right
each-right g [] rack [] = tally-leaf (g []) 0 [] ∙ ap once (and-true (g []))
each-right g [] rack (e ∷ os) = tally-leaf (g []) 0 (e ∷ os) ∙ ap once (and_right (g []) false refl)
each-right g (Old a ∷ cs) rack [] = tally-front_nil 0 (right (after g a) cs rack)
each-right g (Old a ∷ cs) rack (e ∷ os) =
    tally-front e 0 os (right (after g a) cs rack)
    ∙ rw (each-right (after g a) cs rack os) (sym (once-and (e == 0) (fits_right (after g a) cs rack os)))
each-right g (Free m ∷ cs) rack [] =
    tally-append (same []) (leaf (g []) (suc (length cs))) (tries m rack (λ e. right (after g (label_of_entry e)) cs (less rack e)))
    ∙ (let first = tally-leaf (g []) (suc (length cs)) [] ∙ ap once (and_right (g []) false refl) in
    let rest = tries-nil m rack (λ e. right (after g (label_of_entry e)) cs (less rack e)) in omega arith)
each-right g (Free m ∷ cs) rack (e ∷ os) =
    either (same (e ∷ os)) (leaf (g []) (suc (length cs))) (tries m rack (λ d. right (after g (label_of_entry d)) cs (less rack d)))
    (e == 0) (g [] && same os (zeros (length cs))) ((nat_lt e 53 && may m rack e) && fits_right (after g (label_of_entry e)) cs (less rack e) os)
    (tally-leaf (g []) (suc (length cs)) (e ∷ os) ∙ ap once (and_swap (g []) (e == 0) (same os (zeros (length cs)))))
    (tries-each m rack (λ d. right (after g (label_of_entry d)) cs (less rack d)) e os (fits_right (after g (label_of_entry e)) cs (less rack e) os)
    (each-right (after g (label_of_entry e)) cs (less rack e) os))

-- ---- the turn

-- a place that ends the word on the right has no other string after the mark
ends_alone : (g : List ℕ → Bool) (cs : List Cell) (rack x : List ℕ) → ((starts_free cs && g []) && same x (zeros (length cs))) ≡ true → fits_right (longer (after g 0)) cs rack x ≡ false
unfolding fits_right
ends_alone g [] rack [] e = refl
ends_alone g [] rack (d ∷ os) e = refl
ends_alone g (Old a ∷ cs) rack x e = absurd (false≢true e)
ends_alone g (Free m ∷ cs) rack [] e = refl
ends_alone g (Free m ∷ cs) rack (d ∷ os) e =
    let all = and_parts (g []) ((d == 0) && same os (zeros (length cs))) e in
    let zero_first = and_parts (d == 0) (same os (zeros (length cs))) all.1 in
    rw zero_first.0

pub each-turn : (g : List ℕ → Bool) (cs : List Cell) (rack : List ℕ) → Each (fits_turn g cs rack) (turn g cs rack)
unfolding turn fits_turn
each-turn g cs rack x =
    tally-append (same x) (leaf (starts_free cs && g []) (length cs)) (right (longer (after g 0)) cs rack)
    ∙ (let ends = tally-leaf (starts_free cs && g []) (length cs) x in
    let goes = each-right (longer (after g 0)) cs rack x in
    let both = once-or ((starts_free cs && g []) && same x (zeros (length cs))) (fits_right (longer (after g 0)) cs rack x) (ends_alone g cs rack x) in
    omega arith)

-- ---- to the left

pub each-zeros : (n : ℕ) (f : List ℕ → Bool) (xs : List (List ℕ)) → Each f xs → Each (after_zeros n f) (map (λ os. zeros n ++ os) xs)
each-zeros zero f xs each x = ap (tally (same x)) (map-id xs) ∙ each x
each-zeros (suc n) f xs each [] = ap (tally (same [])) (sym (map-map (λ os. 0 ∷ os) (λ os. zeros n ++ os) xs)) ∙ tally-front_nil 0 (map (λ os. zeros n ++ os) xs)
each-zeros (suc n) f xs each (e ∷ x) =
    ap (tally (same (e ∷ x))) (sym (map-map (λ os. 0 ∷ os) (λ os. zeros n ++ os) xs))
    ∙ tally-front e 0 x (map (λ os. zeros n ++ os) xs)
    ∙ rw (each-zeros n f xs each x) (sym (once-and (e == 0) (after_zeros n f x)))

-- lists that are barred, or not
unless : (bar : Bool) (q : List ℕ → Bool) (xs : List (List ℕ)) (a b c : Bool) → tally q xs ≡ once (a && (b && c))
    → tally q (if bar then [] else xs) ≡ once (a && ((not bar && b) && c))
unless true q xs true b c e = refl
unless true q xs false b c e = refl
unless false q xs a b c e = e

-- the lists to the left, and from there to the right
pub each-left : (g : List ℕ → Bool) (ls cs : List Cell) (rack : List ℕ) → Each (fits_left g ls cs rack) (left g ls cs rack)
unfolding left fits_left
each-left g [] cs rack x = each-turn g cs rack x
each-left g (Old a ∷ ls) cs rack [] = tally-front_nil 0 (left (after g a) ls cs rack)
each-left g (Old a ∷ ls) cs rack (e ∷ os) =
    tally-front e 0 os (left (after g a) ls cs rack)
    ∙ rw (each-left (after g a) ls cs rack os) (sym (once-and (e == 0) (fits_left (after g a) ls cs rack os)))
each-left g (Free m ∷ ls) cs rack [] =
    tally-append (same []) (map (λ os. zeros (suc (length ls)) ++ os) (turn g cs rack)) (if m.anchor then [] else tries m rack (λ e. left (after g (label_of_entry e)) ls cs (less rack e)))
    ∙ (let ends = each-zeros (suc (length ls)) (fits_turn g cs rack) (turn g cs rack) (each-turn g cs rack) [] in
    let rest = cond_both m.anchor [] (tries m rack (λ e. left (after g (label_of_entry e)) ls cs (less rack e))) (λ l. tally (same []) l ≡ 0)
    (λ y. refl) (λ n. tries-nil m rack (λ e. left (after g (label_of_entry e)) ls cs (less rack e))) in
    omega arith)
each-left g (Free m ∷ ls) cs rack (e ∷ os) =
    either (same (e ∷ os)) (map (λ t. zeros (suc (length ls)) ++ t) (turn g cs rack)) (if m.anchor then [] else tries m rack (λ d. left (after g (label_of_entry d)) ls cs (less rack d)))
    (e == 0) (after_zeros (length ls) (fits_turn g cs rack) os) ((not m.anchor && (nat_lt e 53 && may m rack e)) && fits_left (after g (label_of_entry e)) ls cs (less rack e) os)
    (each-zeros (suc (length ls)) (fits_turn g cs rack) (turn g cs rack) (each-turn g cs rack) (e ∷ os))
    (unless m.anchor (same (e ∷ os)) (tries m rack (λ d. left (after g (label_of_entry d)) ls cs (less rack d))) (not (e == 0)) (nat_lt e 53 && may m rack e) (fits_left (after g (label_of_entry e)) ls cs (less rack e) os)
    (tries-each m rack (λ d. left (after g (label_of_entry d)) ls cs (less rack d)) e os (fits_left (after g (label_of_entry e)) ls cs (less rack e) os)
    (each-left (after g (label_of_entry e)) ls cs (less rack e) os)))
