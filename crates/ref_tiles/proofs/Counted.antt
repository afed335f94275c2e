-- Lists of kinds as multisets: the empty list, one more tile, and how often a kind occurs.
use Rattle.std.proofs.Common.{◌≡◌, ◌≢◌, ℕ, ◌+◌, ◌<◌, ◌≤◌, cond, eqb, List, [], ◌∷◌, ◌++◌, length, get_or, arith, sym, refl, ◌∙◌, inl, inr}
use Rattle.std.specs.List.{count_by}
use Rattle.std.proofs.lemmas.List.{get_or-set_same, get_or-set_other, length-set}
use Rattle.std.proofs.lemmas.List.FromFn.{length-map-range_with_len, get_or-map-range_with_len, fill_by_all}
use Rattle.std.proofs.lemmas.List.Sums.{sum_by-append, count_by-le-length}
use Rattle.std.proofs.lemmas.Bool.Decides.{eqb_tells, nat_tests}
use Rattle.ref_tiles.specs.declared.kinds.Kind.{Kind}
use Rattle.ref_tiles.specs.declared.kinds.Kind.TheVariants as kind
use Rattle.ref_tiles.specs.Kinds.{number_of}
use Rattle.ref_tiles.specs.Counting.{no_tiles, counted, count_of, with_count}

-- the multiset of no tiles
pub counted_none : no_tiles ≡ counted []
unfolding no_tiles counted
counted_none = refl

-- the number of a kind is below 27
pub number_below : (k : Kind) → number_of k < 27
number_below (kind.Letter l) = let below = l.in_range in omega arith
number_below kind.Blank = omega arith

-- how often a kind occurs
pub counted_at : (kinds : List Kind) (n : ℕ) → n < 27 → get_or (counted kinds) n 0 ≡ count_by (λ kind. eqb (number_of kind) n) kinds
unfolding counted
counted_at kinds n h = get_or-map-range_with_len (λ k. count_by (λ kind. eqb (number_of kind) k) kinds) 0 27 n n 0 h (omega arith)

-- there is a number for each kind
pub length-counted : (kinds : List Kind) → length (counted kinds) ≡ 27
unfolding counted
length-counted kinds = length-map-range_with_len (λ k. count_by (λ kind. eqb (number_of kind) k) kinds) 0 27

-- there are at most as many tiles of a kind as tiles
pub counted_small : (kinds : List Kind) (k : Kind) → count_of (counted kinds) k ≤ length kinds
counted_small kinds k = rw (counted_at kinds (number_of k) (number_below k)) (count_by-le-length (λ kind. eqb (number_of kind) (number_of k)) kinds)

count_push : (kinds : List Kind) (k : Kind) (n : ℕ)
    → count_by (λ kind. eqb (number_of kind) n) (kinds ++ k ∷ []) ≡ count_by (λ kind. eqb (number_of kind) n) kinds + cond (eqb (number_of k) n) 1 0
count_push kinds k n = sum_by-append (λ kind. cond (eqb (number_of kind) n) 1 0) kinds (k ∷ []) ∙ omega arith

counted_set : (kinds : List Kind) (k : Kind) (n : ℕ) → n < 27
    → get_or (with_count (counted kinds) k (count_of (counted kinds) k + 1)) n 0 ≡ count_by (λ kind. eqb (number_of kind) n) (kinds ++ k ∷ [])
counted_set kinds k n h =
    let own = number_below k in
    let size = length-counted kinds in
    let more = count_push kinds k n in
    elim (eqb_tells (number_of k) n) [
      | inl same ↦
          let inside : number_of k < length (counted kinds) = omega arith in
          let placed = get_or-set_same (counted kinds) (number_of k) (count_of (counted kinds) k + 1) 0 inside in
          let at_k = counted_at kinds n h in
          let e = same.1 in
          let more2 = rw same.0 at more in
          grind (arith, nat_tests, placed, at_k, more2)
      | inr other ↦
          let apart : n ≢ number_of k = λ e. other.1 (sym e) in
          let placed = get_or-set_other (counted kinds) (number_of k) n (count_of (counted kinds) k + 1) 0 apart in
          let at_n = counted_at kinds n h in
          let more2 = rw other.0 at more in
          omega (arith, placed, at_n, more2)
    ]

-- the multiset with one more tile
pub counted_push : (kinds : List Kind) (k : Kind) → with_count (counted kinds) k (count_of (counted kinds) k + 1) ≡ counted (kinds ++ k ∷ [])
unfolding counted
counted_push kinds k =
    fill_by_all (λ n. count_by (λ kind. eqb (number_of kind) n) (kinds ++ k ∷ [])) (with_count (counted kinds) k (count_of (counted kinds) k + 1)) 27 0
    (length-set (counted kinds) (number_of k) (count_of (counted kinds) k + 1) ∙ length-counted kinds)
    (λ n h. counted_set kinds k n h)
