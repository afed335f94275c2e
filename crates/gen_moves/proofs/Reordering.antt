-- A join over the same elements in another order has the same plays, each as often.
use Rattle.std.proofs.Common.{◌≡◌, ◌≢◌, ℕ, zero, suc, ◌+◌, ◌<◌, ◌≤◌, List, [], ◌∷◌, ◌++◌, length, get_or, refl, sym, ap, ◌∙◌, subst, arith, ⊎_elim, Option, swap, length-append}
use Rattle.std.proofs.lemmas.Bool.{cases_eq, cases_lt}
use Rattle.std.proofs.lemmas.List.Edits.{Swapped, swapped_from_swap, length-swap}
use Rattle.std.specs.Prelude.{Contains}
use Rattle.std.specs.List.{AllPairs, flat_map}
use Rattle.std.specs.List.Sorted.{IsPermutation}
use Rattle.std.proofs.lemmas.List.{get_or_append_left, get_or-append-add}
use Rattle.std.proofs.lemmas.List.Kept.{AllPairs-cons}
use Rattle.std.proofs.lemmas.List.Sorted.{Contains-permutation, IsPermutation-sym, IsPermutation-keeps}
use Rattle.ref_tiles.specs.declared.tiles.Tile.{Tile}
use Rattle.ref_tiles.specs.declared.rulebook.Rules.{Rules}
use Rattle.ref_play.specs.Candidates.{IsCandidate}
use Rattle.ref_play.specs.Best.{Given, given_of, AreAll}
use Rattle.ref_play.proofs.RangeLaws.{Contains-cases}
use Rattle.gen_moves.proofs.Lists.{All-each, in_join, from_join, All-flat_map, All-flat_map-at, AllPairs-flat_map}

-- ---- what holds for each two elements holds in any order
-- where the element of a place came from when two places were exchanged
moved : {X : Type 0} (f g : ℕ → X) (a b n : ℕ) → Swapped f g a b → a < n → b < n → (p : ℕ) → p < n
    → (s : ℕ) × (s < n) × (g p ≡ f s) × (p ≡ a → s ≡ b) × (p ≡ b → s ≡ a) × ((p ≡ a → ⊥) → (p ≡ b → ⊥) → s ≡ p)
moved f g a b n swapped low high p below =
    ⊎_elim
    (λ (e : p ≡ a). (b, high, ap g e ∙ swapped.0, (λ _. refl), (λ eb. omega arith), (λ u v. absurd (u e))))
    (λ (ne : p ≡ a → ⊥).
    ⊎_elim
    (λ (e : p ≡ b). (a, low, ap g e ∙ swapped.1, (λ i. absurd (ne i)), (λ _. refl), (λ u v. absurd (v e))))
    (λ (neb : p ≡ b → ⊥). (p, below, swapped.2 p ne neb, (λ i. absurd (ne i)), (λ i. absurd (neb i)), (λ u v. refl)))
    (cases_eq p b))
    (cases_eq p a)

-- two places come from two
come_apart : (a b i j s t : ℕ) → (i ≡ j → ⊥) → (i ≡ a → s ≡ b) → (i ≡ b → s ≡ a) → ((i ≡ a → ⊥) → (i ≡ b → ⊥) → s ≡ i) → (j ≡ a → t ≡ b) → (j ≡ b → t ≡ a)
    → ((j ≡ a → ⊥) → (j ≡ b → ⊥) → t ≡ j) → s ≡ t → ⊥
come_apart a b i j s t ne p q r x y z e = grind arith

pub AllPairs-permutation : {X : Type 0} (R : X → X → Type 0) → ((x y : X) → R x y → R y x) → (xs ys : List X) → IsPermutation xs ys → AllPairs R xs → AllPairs R ys
AllPairs-permutation {X} R turn xs ys permutation start =
    IsPermutation-keeps xs (AllPairs R) start
    (λ l a b low high pairs i j d less below.
    let long = length-swap l a b in
    let swapped = swapped_from_swap l (swap l a b) a b d low high refl in
    let u = moved (λ m. get_or l m d) (λ m. get_or (swap l a b) m d) a b (length l) swapped low high i (omega arith) in
    let v = moved (λ m. get_or l m d) (λ m. get_or (swap l a b) m d) a b (length l) swapped low high j (omega arith) in
    let apart : u.0 ≡ v.0 → ⊥ = come_apart a b i j u.0 v.0 (λ e. omega arith) u.3 u.4 u.5 v.3 v.4 v.5 in
    rw (u.2, v.2) (either l d pairs u.0 v.0 apart u.1 v.1))
    ys permutation
  where
    either : (l : List X) (d : X) → AllPairs R l → (s t : ℕ) → (s ≡ t → ⊥) → s < length l → t < length l → R (get_or l s d) (get_or l t d)
    either l d pairs s t ne ls lt =
        ⊎_elim (λ (less : s < t). pairs s t d less lt) (λ (more : t ≤ s). turn (get_or l t d) (get_or l s d) (pairs t s d (omega arith) ls)) (cases_lt s t)

-- ---- each two elements of a join
pairs_left : {X : Type 0} (R : X → X → Type 0) (xs ys : List X) → AllPairs R (xs ++ ys) → AllPairs R xs
pairs_left R xs ys pairs i j d less below =
    let long = length-append xs ys in
    let first = get_or_append_left xs ys d i (omega arith) in
    let second = get_or_append_left xs ys d j below in
    let both : R (get_or (xs ++ ys) i d) (get_or (xs ++ ys) j d) = pairs i j d less (omega arith) in
    subst (R (get_or xs i d)) second (subst (λ x. R x (get_or (xs ++ ys) j d)) first both)

pairs_right : {X : Type 0} (R : X → X → Type 0) (xs ys : List X) → AllPairs R (xs ++ ys) → AllPairs R ys
pairs_right R [] ys pairs = pairs
pairs_right R (x ∷ xs) ys pairs = pairs_right R xs ys (λ i j d less below. pairs (suc i) (suc j) d (omega arith) (omega arith))

pairs_across : {X : Type 0} (R : X → X → Type 0) (xs ys : List X) → AllPairs R (xs ++ ys) → (x y : X) → Contains xs x → Contains ys y → R x y
pairs_across R xs ys pairs x y (i, low, is) (j, high, there) =
    let long = length-append xs ys in
    let first : get_or (xs ++ ys) i x ≡ x = get_or_append_left xs ys x i low ∙ is in
    let second : get_or (xs ++ ys) (length xs + j) y ≡ y = get_or-append-add xs ys j y ∙ there in
    let same : get_or (xs ++ ys) (length xs + j) x ≡ y = any_default (xs ++ ys) (length xs + j) x y (omega arith) ∙ second in
    let both : R (get_or (xs ++ ys) i x) (get_or (xs ++ ys) (length xs + j) x) = pairs i (length xs + j) x (omega arith) (omega arith) in
    subst (R x) same (subst (λ z. R z (get_or (xs ++ ys) (length xs + j) x)) first both)
  where
    any_default : {X : Type 0} (zs : List X) (k : ℕ) (d e : X) → k < length zs → get_or zs k d ≡ get_or zs k e
    any_default [] k d e below = absurd (omega arith)
    any_default (z ∷ zs) zero d e below = refl
    any_default (z ∷ zs) (suc k) d e below = any_default zs k d e (omega arith)

-- no play of one list is one of another
abbrev Apart : {X A : Type 0} → (X → List A) → X → X → Type 0
Apart {X} {A} f x y = (a b : A) → Contains (f x) a → Contains (f y) b → a ≢ b

parts_apart : {X A : Type 0} (f : X → List A) (xs : List X) → AllPairs (λ a b. a ≢ b) (flat_map f xs) → AllPairs (Apart f) xs
parts_apart f [] pairs = λ i j d less below. absurd (omega arith)
parts_apart f (x ∷ xs) pairs =
    AllPairs-cons (Apart f) x xs
    (All-each (Apart f x) xs (λ y there a b has_a has_b. pairs_across (λ a b. a ≢ b) (f x) (flat_map f xs) pairs a b has_a (in_join f xs y b there has_b)))
    (parts_apart f xs (pairs_right (λ a b. a ≢ b) (f x) (flat_map f xs) pairs))

part_once : {X A : Type 0} (f : X → List A) (xs : List X) → AllPairs (λ a b. a ≢ b) (flat_map f xs) → (x : X) → Contains xs x → AllPairs (λ a b. a ≢ b) (f x)
part_once f [] pairs x there = absurd (omega (arith, there.1))
part_once f (y ∷ xs) pairs x there =
    ⊎_elim
    (λ (same : y ≡ x). subst (λ z. AllPairs (λ a b. a ≢ b) (f z)) same (pairs_left (λ a b. a ≢ b) (f y) (flat_map f xs) pairs))
    (λ (further : Contains xs x). part_once f xs (pairs_right (λ a b. a ≢ b) (f y) (flat_map f xs) pairs) x further)
    (Contains-cases y xs x there)

-- ---- plays in another order
in_other : {X A : Type 0} (f : X → List A) (xs ys : List X) → IsPermutation xs ys → (a : A) → Contains (flat_map f xs) a → Contains (flat_map f ys) a
in_other f xs ys permutation a there =
    let from = from_join f xs a there in
    in_join f ys from.0 a (Contains-permutation xs ys from.0 permutation from.1) from.2

abbrev IsSoundPlay : Rules → List (List ℕ) → List (Option Tile) → List ℕ → Given → Type 0
IsSoundPlay rules words board rack a = IsCandidate words board rack a.tiles × (a ≡ given_of rules board a.tiles)

pub all_reordered : {X : Type 0} (f : X → List Given) (xs ys : List X) (rules : Rules) (words : List (List ℕ)) (board : List (Option Tile)) (rack : List ℕ) → IsPermutation xs ys
    → AreAll rules words board rack (flat_map f xs) → AreAll rules words board rack (flat_map f ys)
all_reordered {X} f xs ys rules words board rack permutation all =
    let back : IsPermutation ys xs = IsPermutation-sym xs ys permutation in
    record {
      sound = All-flat_map (IsSoundPlay rules words board rack) f ys (λ x there. All-flat_map-at (IsSoundPlay rules words board rack) f xs x all.sound (Contains-permutation ys xs x back there));
      complete = λ ps candidate. in_other f xs ys permutation (given_of rules board ps) (all.complete ps candidate);
      once =
          AllPairs-flat_map (Apart f) (λ (a b : Given). a ≢ b) f ys
          (AllPairs-permutation (Apart f) (λ x y apart a b has_a has_b same. apart b a has_b has_a (sym same)) xs ys permutation (parts_apart f xs all.once))
          (λ x there. part_once f xs all.once x (Contains-permutation ys xs x back there))
          (λ x y a b has_x has_y apart has_a has_b. apart a b has_a has_b);
    }
