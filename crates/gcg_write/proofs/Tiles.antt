-- Tiles as they are written, read again.
use Rattle.std.proofs.Common.{◌≡◌, ℕ, zero, suc, ◌+◌, ◌-◌, ◌<◌, ◌≤◌, Bool, true, false, cond, eqb, ltb, ◌&&◌, List, [], ◌∷◌, ◌++◌, length, get_or, replicate, nat_le, Option, Some, None, is_some, arith, sym, subst, ap, refl, ◌∙◌, inl, inr}
use Rattle.std.specs.List.{list_all, filter_map, cons_option, count_by}
use Rattle.std.proofs.lemmas.List.{length-append, length-replicate}
use Rattle.std.proofs.lemmas.List.Elements.{filter_map-append}
use Rattle.std.proofs.lemmas.List.Sums.{sum_by-append, sum_by-cons}
use Rattle.std.proofs.lemmas.List.FromFn.{fill_by_all}
use Rattle.std.proofs.lemmas.Bool.Decides.{eqb_tells, nat_tests}
use Rattle.ref_tiles.specs.declared.letters.Letter.{Letter}
use Rattle.ref_tiles.specs.declared.kinds.Kind.{Kind}
use Rattle.ref_tiles.specs.declared.kinds.Kind.TheVariants as kind
use Rattle.ref_tiles.specs.Kinds.{number_of}
use Rattle.ref_tiles.specs.Counting.{counted}
use Rattle.ref_tiles.proofs.Counted.{number_below, length-counted, counted_at}
use Rattle.ref_tiles.proofs.LetterLemmas.{letter_at_letter}
use Rattle.gcg_read.specs.Racks.{kind_of, is_tile, is_rack, rack_of}
use Rattle.gcg_write.specs.Fields.{letter_text, letters_to, tiles_text}
use Rattle.gcg_write.proofs.Each.{Each, each_append, each_replicate}
use Rattle.gcg_write.proofs.Digits.{le_true}
use Rattle.gcg_write.proofs.Inversions.{both, chosen, le_from}
use Rattle.gcg_write.proofs.Texts.{letters_more}

-- ---- the bytes

sub_front : (m n : ℕ) → m + n - m ≡ n
sub_front m n = omega arith

letter_again : (l : Letter) → kind_of (65 + l.index) ≡ Some (kind.Letter l)
letter_again l = grind (arith, nat_tests, sub_front 65 l.index, letter_at_letter l)

kind_again : (n : ℕ) (h : n < 26) → kind_of (65 + n) ≡ Some (kind.Letter (record { index = n; in_range = h }))
kind_again n h = letter_again (record { index = n; in_range = h })

-- a capital or '?' (63)
abbrev pub IsTileByte : ℕ → Type 0
IsTileByte byte = (63 ≤ byte) × (byte ≤ 90) × (is_tile byte ≡ true)

letters_suc : (counts : List ℕ) (m : ℕ) → letters_to counts (suc m) ≡ letters_to counts m ++ letter_text counts m
letters_suc counts m = ap (letters_to counts) (omega arith) ∙ letters_more counts m

letter_byte : (n : ℕ) → n < 26 → IsTileByte (65 + n)
letter_byte n h = (omega arith, omega arith, rw (kind_again n h) refl)

letters_bytes : (counts : List ℕ) (m : ℕ) → m ≤ 26 → Each IsTileByte (letters_to counts m)
unfolding letters_to
letters_bytes counts zero h = tt
letters_bytes counts (suc m) h =
    rw (letters_suc counts m)
    (each_append IsTileByte (letters_to counts m) (letter_text counts m) (letters_bytes counts m (omega arith))
    (each_replicate IsTileByte (get_or counts m 0) (65 + m) (letter_byte m (omega arith))))

pub tiles_bytes : (counts : List ℕ) → Each IsTileByte (tiles_text counts)
tiles_bytes counts =
    each_append IsTileByte (letters_to counts 26) (replicate (get_or counts 26 0) 63) (letters_bytes counts 26 (omega arith))
    (each_replicate IsTileByte (get_or counts 26 0) 63 (omega arith, omega arith, refl))

all_tiles : (bytes : List ℕ) → Each IsTileByte bytes → list_all is_tile bytes ≡ true
all_tiles [] h = refl
all_tiles (byte ∷ bytes) h = rw (h.0.2, all_tiles bytes h.1) refl

-- ---- the number of tiles of a kind

abbrev is_number : ℕ → Kind → Bool
is_number n k = eqb (number_of k) n

-- the number of tiles of a kind that these bytes write
abbrev written : ℕ → List ℕ → ℕ
written n bytes = count_by (is_number n) (filter_map kind_of bytes)

written_append : (n : ℕ) (xs ys : List ℕ) → written n (xs ++ ys) ≡ written n xs + written n ys
written_append n xs ys =
    ap (count_by (is_number n)) (filter_map-append kind_of xs ys)
    ∙ sum_by-append (λ (k : Kind). cond (is_number n k) 1 0) (filter_map kind_of xs) (filter_map kind_of ys)

written_one : (n byte : ℕ) (k : Kind) → kind_of byte ≡ Some k → written n (byte ∷ []) ≡ cond (is_number n k) 1 0
written_one n byte k e = rw e (omega arith)

times_cond : (b : Bool) (m : ℕ) → cond b 1 0 + cond b m 0 ≡ cond b (suc m) 0
times_cond true m = omega arith
times_cond false m = omega arith

no_times : (b : Bool) → cond b 0 0 ≡ zero
no_times true = refl
no_times false = refl

written_times : (n m byte : ℕ) (k : Kind) → kind_of byte ≡ Some k → written n (replicate m byte) ≡ cond (is_number n k) m 0
written_times n zero byte k e = sym (no_times (is_number n k))
written_times n (suc m) byte k e =
    written_append n (byte ∷ []) (replicate m byte)
    ∙ rw (written_one n byte k e, written_times n m byte k e) (times_cond (is_number n k) m)

letters_step : (counts : List ℕ) (n m : ℕ)
    → cond (ltb n m) (get_or counts n 0) 0 + cond (eqb m n) (get_or counts m 0) 0 ≡ cond (ltb n (suc m)) (get_or counts n 0) 0
letters_step counts n m =
    elim (eqb_tells m n) [
      | inl same ↦ let number = ap (λ k. get_or counts k 0) same.1 in let reports = same.0 in let at = same.1 in grind (arith, nat_tests)
      | inr other ↦ let reports = other.0 in let apart = other.1 in grind (arith, nat_tests)
    ]

written_letters : (counts : List ℕ) (n m : ℕ) → m ≤ 26 → written n (letters_to counts m) ≡ cond (ltb n m) (get_or counts n 0) 0
unfolding letters_to
written_letters counts n zero h = let past : ltb n 0 ≡ false = grind (arith, nat_tests) in rw past refl
written_letters counts n (suc m) h =
    let before = written_letters counts n m (omega arith) in
    let here = written_times n (get_or counts m 0) (65 + m) (kind.Letter (record { index = m; in_range = omega arith })) (kind_again m (omega arith)) in
    ap (written n) (letters_suc counts m) ∙ written_append n (letters_to counts m) (letter_text counts m) ∙ rw (before, here) (letters_step counts n m)

tiles_step : (counts : List ℕ) (n : ℕ) → n < 27 → cond (ltb n 26) (get_or counts n 0) 0 + cond (eqb 26 n) (get_or counts 26 0) 0 ≡ get_or counts n 0
tiles_step counts n h =
    elim (eqb_tells 26 n) [
      | inl same ↦ let number = ap (λ k. get_or counts k 0) same.1 in let reports = same.0 in let at = same.1 in grind (arith, nat_tests)
      | inr other ↦ let reports = other.0 in let apart = other.1 in grind (arith, nat_tests)
    ]

-- each kind is written as often as there are tiles of it
written_tiles : (counts : List ℕ) (n : ℕ) → n < 27 → written n (tiles_text counts) ≡ get_or counts n 0
written_tiles counts n h =
    written_append n (letters_to counts 26) (replicate (get_or counts 26 0) 63)
    ∙ rw (written_letters counts n 26 (omega arith), written_times n (get_or counts 26 0) 63 kind.Blank refl) (tiles_step counts n h)

counted_tiles : (counts : List ℕ) → length counts ≡ 27 → counted (filter_map kind_of (tiles_text counts)) ≡ counts
unfolding counted
counted_tiles counts size =
    sym (fill_by_all (λ (n : ℕ). written n (tiles_text counts)) counts 27 0 size (λ n h. sym (written_tiles counts n h)))

-- tiles that a rack may have: 1 to 7
pub record IsRack (counts : List ℕ) : Type 0 where
  pub kinds : length counts ≡ 27
  pub some : 1 ≤ length (tiles_text counts)
  pub few : length (tiles_text counts) ≤ 7

pub rack_again : (counts : List ℕ) → IsRack counts → rack_of (tiles_text counts) ≡ Some counts
rack_again counts rack =
    rw (le_true 1 (length (tiles_text counts)) rack.some, le_true (length (tiles_text counts)) 7 rack.few, all_tiles (tiles_text counts) (tiles_bytes counts))
    (ap Some (counted_tiles counts rack.kinds))

-- ---- the number of tiles

total : (ℕ → ℕ) → ℕ → ℕ
total f zero = 0
total f (suc m) = total f m + f m

total_same : (f g : ℕ → ℕ) (m : ℕ) → ((n : ℕ) → n < m → f n ≡ g n) → total f m ≡ total g m
unfolding total
total_same f g zero h = refl
total_same f g (suc m) h = rw (total_same f g m (λ n lt. h n (omega arith)), h m (omega arith)) refl

total_add : (f g : ℕ → ℕ) (m : ℕ) → total (λ n. f n + g n) m ≡ total f m + total g m
unfolding total
total_add f g zero = refl
total_add f g (suc m) = let before = total_add f g m in omega arith

total_one : (k m : ℕ) → total (λ n. cond (eqb k n) 1 0) m ≡ cond (ltb k m) 1 0
unfolding total
total_one k zero = let past : ltb k 0 ≡ false = grind (arith, nat_tests) in rw past refl
total_one k (suc m) = let before = total_one k m in grind (arith, nat_tests)

total_none : (m : ℕ) → total (λ n. 0) m ≡ 0
unfolding total
total_none zero = refl
total_none (suc m) = let before = total_none m in omega arith

total_kinds : (kinds : List Kind) → total (λ n. count_by (is_number n) kinds) 27 ≡ length kinds
total_kinds [] = total_none 27
total_kinds (k ∷ kinds) =
    let parts = total_same (λ n. count_by (is_number n) (k ∷ kinds)) (λ n. cond (eqb (number_of k) n) 1 0 + count_by (is_number n) kinds) 27
    (λ n h. sum_by-cons (λ (x : Kind). cond (is_number n x) 1 0) k kinds) in
    let sums = total_add (λ n. cond (eqb (number_of k) n) 1 0) (λ n. count_by (is_number n) kinds) 27 in
    let inside : ltb (number_of k) 27 ≡ true = let small = number_below k in grind (arith, nat_tests) in
    let one : total (λ n. cond (eqb (number_of k) n) 1 0) 27 ≡ 1 = total_one (number_of k) 27 ∙ rw inside refl in
    parts ∙ sums ∙ rw (one, total_kinds kinds) (omega arith)

length-letters : (counts : List ℕ) (m : ℕ) → length (letters_to counts m) ≡ total (λ n. get_or counts n 0) m
unfolding total letters_to
length-letters counts zero = refl
length-letters counts (suc m) =
    ap length (letters_suc counts m) ∙ length-append (letters_to counts m) (letter_text counts m)
    ∙ rw (length-letters counts m, length-replicate (get_or counts m 0) (65 + m)) refl

length-tiles : (counts : List ℕ) → length (tiles_text counts) ≡ total (λ n. get_or counts n 0) 27
unfolding total
length-tiles counts =
    length-append (letters_to counts 26) (replicate (get_or counts 26 0) 63)
    ∙ rw (length-letters counts 26, length-replicate {A = ℕ} (get_or counts 26 0) 63) refl

one_more : (o : Option Kind) (kinds : List Kind) → is_some o ≡ true → length (cons_option o kinds) ≡ suc (length kinds)
one_more None kinds e = absurd cc
one_more (Some k) kinds e = refl

length-kinds : (bytes : List ℕ) → list_all is_tile bytes ≡ true → length (filter_map kind_of bytes) ≡ length bytes
length-kinds [] h = refl
length-kinds (byte ∷ bytes) h =
    let parts = both (is_tile byte) (list_all is_tile bytes) h in
    one_more (kind_of byte) (filter_map kind_of bytes) parts.0 ∙ ap suc (length-kinds bytes parts.1)

length-counted_text : (kinds : List Kind) → length (tiles_text (counted kinds)) ≡ length kinds
length-counted_text kinds =
    length-tiles (counted kinds) ∙ total_same (λ n. get_or (counted kinds) n 0) (λ n. count_by (is_number n) kinds) 27 (λ n h. counted_at kinds n h)
    ∙ total_kinds kinds

rack_counted : (bytes : List ℕ) → is_rack bytes ≡ true → IsRack (counted (filter_map kind_of bytes))
rack_counted bytes h =
    let outer = both (nat_le 1 (length bytes) && nat_le (length bytes) 7) (list_all is_tile bytes) h in
    let inner = both (nat_le 1 (length bytes)) (nat_le (length bytes) 7) outer.0 in
    let size : length (tiles_text (counted (filter_map kind_of bytes))) ≡ length bytes = length-counted_text (filter_map kind_of bytes) ∙ length-kinds bytes outer.1 in
    let some = le_from 1 (length bytes) inner.0 in
    let few = le_from (length bytes) 7 inner.1 in
    record { kinds = length-counted (filter_map kind_of bytes); some = omega arith; few = omega arith }

-- what is read as a rack is one
pub rack_read : (bytes counts : List ℕ) → rack_of bytes ≡ Some counts → IsRack counts
rack_read bytes counts e =
    let parts = chosen (is_rack bytes) (counted (filter_map kind_of bytes)) counts e in
    subst IsRack parts.1 (rack_counted bytes parts.0)
