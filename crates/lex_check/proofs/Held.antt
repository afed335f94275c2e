-- Paths stored in rows of bytes: where each label is, and that the paths are ordered as the numbers that the rows spell.
use Rattle.std.proofs.Common.{◌≡◌, ◌≢◌, ℕ, zero, suc, ◌+◌, ◌*◌, ◌^◌, ◌<◌, ◌≤◌, true, false, eqb, List, [], ◌∷◌, length, get_or, take, take_all, add-one, inl, inr, refl, sym, ap, subst, ◌∙◌, arith}
use Rattle.std.specs.Prelude.{IsTrue, nat_eq, slice_set}
use Rattle.std.specs.Cmp.{nat_cmp_is, unsigned_ties}
use Rattle.std.specs.Cmp.Lexicographic.{pointwise, slice_cmp, lists_ties}
use Rattle.std.specs.Int.{w128, from_be_bytes}
use Rattle.std.specs.List.{list_all}
use Rattle.std.specs.Ordering.{nat_cmp, ordering_then, is_eq}
use Rattle.std.specs.declared.cmp.Ordering.{Ordering}
use Rattle.std.specs.declared.cmp.Ordering.TheVariants.{Less, Equal, Greater}
use lib.Arith.{digits_lt}
use native.Mathlib.Nat.{pow-suc}
use Rattle.std.proofs.lemmas.Bool.{and_parts, ltb-true, cases_lt, eq-eqb}
use Rattle.std.proofs.lemmas.Bool.Decides.{eqb_tells}
use Rattle.lex_file.specs.Lexicons.{is_label}
use Rattle.lex_check.specs.Held.{held, path_in, IsHeld}

-- ---- where each label is

pub held_length : (count : ℕ) (path : List ℕ) → length (held count path) ≡ count
unfolding held
held_length zero path = refl
held_length (suc count) [] = ap suc (held_length count [])
held_length (suc count) (label ∷ path) = ap suc (held_length count path)

pub row_length : (bytes : List ℕ) → IsHeld bytes → length bytes ≡ 16
row_length bytes is = ap length is.row ∙ held_length 16 (path_in bytes)

-- the path that a row holds is the one from which it was made
pub held_back : (count : ℕ) (path : List ℕ) → length path ≤ count → path_in (held count path) ≡ path
unfolding held path_in
held_back zero [] le = refl
held_back zero (label ∷ path) le = absurd (omega arith)
held_back (suc count) [] le = refl
held_back (suc count) (label ∷ path) le = ap (λ (rest : List ℕ). label ∷ rest) (held_back count path (omega arith))

pub held_is : (path : List ℕ) → length path ≤ 16 → IsTrue (list_all is_label path) → IsHeld (held 16 path)
held_is path le all =
    let back = held_back 16 path le in
    record {
      row = ap (held 16) (sym back);
      few = rw back le;
      labels = rw back all;
    }

-- one more label
set_held : (count : ℕ) (path : List ℕ) (place : ℕ) → place < length path → length path ≤ count
    → slice_set (held count (take place path)) place (suc (get_or path place 0)) ≡ held count (take (suc place) path)
unfolding held
set_held count [] place lt le = absurd (omega arith)
set_held zero (label ∷ path) place lt le = absurd (omega arith)
set_held (suc count) (label ∷ path) zero lt le = refl
set_held (suc count) (label ∷ path) (suc place) lt le = ap (λ (rest : List ℕ). suc label ∷ rest) (set_held count path place (omega arith) (omega arith))

-- ---- the label and the end at a depth

held_at : (count : ℕ) (path : List ℕ) (depth : ℕ) → depth < length path → length path ≤ count → get_or (held count path) depth 0 ≡ get_or path depth 0 + 1
unfolding held
held_at count [] depth lt le = absurd (omega arith)
held_at zero (label ∷ path) depth lt le = absurd (omega arith)
held_at (suc count) (label ∷ path) zero lt le = omega arith
held_at (suc count) (label ∷ path) (suc depth) lt le = held_at count path depth (omega arith) (omega arith)

held_past : (count : ℕ) (path : List ℕ) (depth : ℕ) → length path ≤ depth → get_or (held count path) depth 0 ≡ 0
unfolding held
held_past zero path depth le = refl
held_past (suc count) [] zero le = refl
held_past (suc count) [] (suc depth) le = held_past count [] depth (omega arith)
held_past (suc count) (label ∷ path) zero le = absurd (omega arith)
held_past (suc count) (label ∷ path) (suc depth) le = held_past count path depth (omega arith)

pub byte_at : (bytes : List ℕ) (depth : ℕ) → IsHeld bytes → depth < length (path_in bytes)
    → get_or bytes depth 0 ≡ get_or (path_in bytes) depth 0 + 1
byte_at bytes depth is lt = ap (λ (row : List ℕ). get_or row depth 0) is.row ∙ held_at 16 (path_in bytes) depth lt is.few

-- ---- the order

-- the number that bytes spell, the first one the highest
unfoldable spelt : List ℕ → ℕ
spelt [] = 0
spelt (byte ∷ bytes) = byte * 256 ^ length bytes + spelt bytes

spelt_is : (bytes : List ℕ) → length bytes ≡ 16 → from_be_bytes w128 bytes ≡ spelt bytes
unfolding spelt
spelt_is (a ∷ b ∷ c ∷ d ∷ e ∷ f ∷ g ∷ h ∷ i ∷ j ∷ k ∷ l ∷ m ∷ n ∷ o ∷ p ∷ []) size = omega arith
spelt_is bytes size = absurd (omega arith)

less_digits : (p x y u v : ℕ) → u < p → x < y → x * p + u < y * p + v
less_digits p x y u v small lt = omega (arith, digits_lt lt small)

cmp_same : (c u v : ℕ) → nat_cmp (c + u) (c + v) ≡ nat_cmp u v
cmp_same c u v = elim (cases_lt u v) [
  | inl lt ↦ sym (nat_cmp_is (c + u) (c + v) Less (omega arith)) ∙ nat_cmp_is u v Less lt
  | inr le ↦ elim (cases_lt v u) [
    | inl lt ↦ sym (nat_cmp_is (c + u) (c + v) Greater (omega arith)) ∙ nat_cmp_is u v Greater lt
    | inr ge ↦ let same : u ≡ v = omega arith in sym (nat_cmp_is (c + u) (c + v) Equal (ap (λ (n : ℕ). c + n) same)) ∙ nat_cmp_is u v Equal same
  ]
]

cmp_next : (l m : ℕ) → nat_cmp (suc l) (suc m) ≡ nat_cmp l m
cmp_next l m = elim (cases_lt l m) [
  | inl lt ↦ sym (nat_cmp_is (suc l) (suc m) Less (omega arith)) ∙ nat_cmp_is l m Less lt
  | inr le ↦ elim (cases_lt m l) [
    | inl lt ↦ sym (nat_cmp_is (suc l) (suc m) Greater (omega arith)) ∙ nat_cmp_is l m Greater lt
    | inr ge ↦ let same : l ≡ m = omega arith in sym (nat_cmp_is (suc l) (suc m) Equal (ap suc same)) ∙ nat_cmp_is l m Equal same
  ]
]

-- the higher digit decides, and if the digits are the same, the rest does
cmp_digits : (p x y u v : ℕ) → u < p → v < p → nat_cmp (x * p + u) (y * p + v) ≡ ordering_then (nat_cmp x y) (nat_cmp u v)
cmp_digits p x y u v small small' = elim (cases_lt x y) [
  | inl lt ↦
      sym (nat_cmp_is (x * p + u) (y * p + v) Less (less_digits p x y u v small lt))
      ∙ ap (λ (o : Ordering). ordering_then o (nat_cmp u v)) (nat_cmp_is x y Less lt)
  | inr le ↦ elim (cases_lt y x) [
    | inl lt ↦
        sym (nat_cmp_is (x * p + u) (y * p + v) Greater (less_digits p y x v u small' lt))
        ∙ ap (λ (o : Ordering). ordering_then o (nat_cmp u v)) (nat_cmp_is x y Greater lt)
    | inr ge ↦
        let same : x ≡ y = omega arith in
        ap (λ (n : ℕ). nat_cmp (x * p + u) (n * p + v)) (sym same)
        ∙ cmp_same (x * p) u v
        ∙ ap (λ (o : Ordering). ordering_then o (nat_cmp u v)) (nat_cmp_is x y Equal same)
  ]
]

all_held : (count : ℕ) (path : List ℕ) → list_all is_label path ≡ true → spelt (held count path) < 256 ^ count
unfolding held spelt
all_held zero path all = omega arith
all_held (suc count) [] all = let more = all_held count [] all in rw (held_length count []) (omega (arith, more, pow-suc 256 count))
all_held (suc count) (label ∷ path) all =
    let parts = and_parts (is_label label) (list_all is_label path) all in
    let more = all_held count path parts.1 in
    let low = ltb-true label 27 parts.0 in
    let digit : suc label < 256 = omega arith in
    rw (held_length count path) (omega (arith, digits_lt digit more, pow-suc 256 count))

order_spelt : (count : ℕ) (x y : List ℕ) → length x ≤ count → length y ≤ count → list_all is_label x ≡ true → list_all is_label y ≡ true
    → nat_cmp (spelt (held count x)) (spelt (held count y)) ≡ slice_cmp nat_cmp x y
unfolding held spelt
order_spelt zero [] [] le le' all all' = refl
order_spelt zero (l ∷ x) y le le' all all' = absurd (omega arith)
order_spelt zero x (l ∷ y) le le' all all' = absurd (omega arith)
order_spelt (suc count) [] [] le le' all all' = sym (nat_cmp_is (spelt (held (suc count) [])) (spelt (held (suc count) [])) Equal refl)
order_spelt (suc count) [] (m ∷ y) le le' all all' =
    let small = all_held count [] all in
    rw (held_length count [], held_length count y)
    (sym (nat_cmp_is _ _ Less (less_digits (256 ^ count) 0 (suc m) (spelt (held count [])) (spelt (held count y)) small (omega arith))))
order_spelt (suc count) (l ∷ x) [] le le' all all' =
    let small = all_held count [] all' in
    rw (held_length count [], held_length count x)
    (sym (nat_cmp_is _ _ Greater (less_digits (256 ^ count) 0 (suc l) (spelt (held count [])) (spelt (held count x)) small (omega arith))))
order_spelt (suc count) (l ∷ x) (m ∷ y) le le' all all' =
    let parts = and_parts (is_label l) (list_all is_label x) all in
    let parts' = and_parts (is_label m) (list_all is_label y) all' in
    let small = all_held count x parts.1 in
    let small' = all_held count y parts'.1 in
    rw (held_length count x, held_length count y)
    (cmp_digits (256 ^ count) (suc l) (suc m) (spelt (held count x)) (spelt (held count y)) small small'
    ∙ ap (λ (o : Ordering). ordering_then o (nat_cmp (spelt (held count x)) (spelt (held count y)))) (cmp_next l m)
    ∙ ap (ordering_then (nat_cmp l m)) (order_spelt count x y (omega arith) (omega arith) parts.1 parts'.1))

-- ---- the numbers of two rows that hold paths

pub number_of_row : (bytes : List ℕ) → IsHeld bytes → from_be_bytes w128 bytes ≡ from_be_bytes w128 (held 16 (path_in bytes))
number_of_row bytes is = ap (from_be_bytes w128) is.row

number_spelt : (path : List ℕ) → from_be_bytes w128 (held 16 path) ≡ spelt (held 16 path)
number_spelt path = spelt_is (held 16 path) (held_length 16 path)

-- the number by which a path is ordered
abbrev pub number_of : List ℕ → ℕ
number_of path = from_be_bytes w128 (held 16 path)

pub number_order : (x y : List ℕ) → length x ≤ 16 → length y ≤ 16 → IsTrue (list_all is_label x) → IsTrue (list_all is_label y)
    → nat_cmp (number_of x) (number_of y) ≡ slice_cmp nat_cmp x y
number_order x y few few' all all' =
    ap (λ (n : ℕ). nat_cmp n (from_be_bytes w128 (held 16 y))) (number_spelt x)
    ∙ ap (nat_cmp (spelt (held 16 x))) (number_spelt y)
    ∙ order_spelt 16 x y few few' all all'

pub same_numbers : (x y : List ℕ) → length x ≤ 16 → length y ≤ 16 → IsTrue (list_all is_label x) → IsTrue (list_all is_label y)
    → eqb (from_be_bytes w128 (held 16 x)) (from_be_bytes w128 (held 16 y)) ≡ pointwise nat_eq x y
same_numbers x y few few' all all' =
    unsigned_ties (from_be_bytes w128 (held 16 x)) (from_be_bytes w128 (held 16 y))
    ∙ ap is_eq (number_order x y few few' all all')
    ∙ sym (lists_ties nat_cmp unsigned_ties x y)

-- ---- the code's steps

pub held_more : (path row : List ℕ) (place byte : ℕ) → row ≡ held 16 (take place path) → place < length path → length path ≤ 16
    → byte ≡ get_or path place 0 + 1 → slice_set row place byte ≡ held 16 (take (place + 1) path)
held_more path row place byte e lt le s =
    let here : byte ≡ suc (get_or path place 0) = omega arith in
    ap (λ (r : List ℕ). slice_set r place byte) e
    ∙ ap (slice_set (held 16 (take place path)) place) here
    ∙ set_held 16 path place lt le
    ∙ ap (λ (n : ℕ). held 16 (take n path)) (sym (add-one place))

pub label_low : (path : List ℕ) (place : ℕ) → IsTrue (list_all is_label path) → place < length path → get_or path place 0 < 27
label_low [] place all lt = absurd (omega arith)
label_low (label ∷ path) zero all lt = ltb-true label 27 (and_parts (is_label label) (list_all is_label path) all).0
label_low (label ∷ path) (suc place) all lt = label_low path place (and_parts (is_label label) (list_all is_label path) all).1 (omega arith)

pub ends_full : (bytes : List ℕ) (depth : ℕ) → IsHeld bytes → depth ≤ length (path_in bytes) → depth ≡ 16
    → true ≡ eqb (length (path_in bytes)) depth
ends_full bytes depth is le full = let few = is.few in sym (eq-eqb (length (path_in bytes)) depth (omega arith))

pub ends_zero : (bytes : List ℕ) (depth : ℕ) → IsHeld bytes → depth ≤ length (path_in bytes)
    → eqb (get_or bytes depth 0) 0 ≡ eqb (length (path_in bytes)) depth
ends_zero bytes depth is le = elim (cases_lt depth (length (path_in bytes))) [
  | inl lt ↦
      let some = byte_at bytes depth is lt in
      other _ _ (omega arith) ∙ sym (other (length (path_in bytes)) depth (omega arith))
  | inr ge ↦
      let none = ap (λ (row : List ℕ). get_or row depth 0) is.row ∙ held_past 16 (path_in bytes) depth ge in
      eq-eqb (get_or bytes depth 0) 0 none ∙ sym (eq-eqb (length (path_in bytes)) depth (omega arith))
]
  where
    other : (a b : ℕ) → a ≢ b → eqb a b ≡ false
    other a b apart = elim (eqb_tells a b) [ inl same ↦ absurd (apart same.1) | inr different ↦ different.0 ]

whole_row : (path row : List ℕ) (place : ℕ) → row ≡ held 16 (take place path) → length path ≤ place → row ≡ held 16 path
whole_row path row place e le = e ∙ ap (held 16) (take_all place path le)

pub made_is : (path row : List ℕ) (place : ℕ) → row ≡ held 16 (take place path) → length path ≤ place → length path ≤ 16
    → IsTrue (list_all is_label path) → IsHeld row
made_is path row place e le few all = subst IsHeld (sym (whole_row path row place e le)) (held_is path few all)

pub made_back : (path row : List ℕ) (place : ℕ) → row ≡ held 16 (take place path) → length path ≤ place → length path ≤ 16 → path_in row ≡ path
made_back path row place e le few = ap path_in (whole_row path row place e le) ∙ held_back 16 path few
