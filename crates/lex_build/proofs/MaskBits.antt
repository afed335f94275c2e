-- Label words and accept words, bit by bit.
use Rattle.std.proofs.Common.{◌≡◌, ℕ, ◌+◌, ◌*◌, ◌/◌, ◌%◌, ◌^◌, ◌<◌, ◌≤◌, min, Bool, true, false, ◌&&◌, ◌||◌, eqb, List, [], ◌∷◌, length, get_or, take, refl, sym, ap, subst, ◌∙◌, inl, inr, arith, w32}
use Rattle.std.specs.Prelude.{bit_and, bit_or}
use Rattle.std.specs.Int.{bit_at}
use Rattle.std.specs.List.{Contains, list_any}
use Rattle.std.proofs.lemmas.Bool.{ne_eqb, or_left, or_right, eqb-true, eqb-false, eq-eqb, false≢true, cases_lt, cases_eq, and_parts}
use Rattle.std.proofs.lemmas.List.Elements.{Contains-get_or}
use Rattle.std.proofs.lemmas.List.Folds.{list_any_more}
use Rattle.std.proofs.lemmas.Nat.{mod_below, pow_pos}
use Rattle.std.proofs.lemmas.Nat.Bits.{bit_at_and, bit_at_set_same, bit_at_set_other, bit_at-pow_other, bit_at-zero, bit_at-lt, bit_at_above, bit_at_cat_low, same_from_bits}
use Rattle.lex_file.specs.declared.arcs.Arc.{Arc}
use Rattle.lex_file.specs.declared.formats.Format.{Format}
use Rattle.lex_file.specs.Arcs.{has_label}
use Rattle.lex_file.specs.Graphs.{AreRising}
use Rattle.lex_file.specs.laws.Graphs.{first_or_other, is_other, none_there, or_cases}
use Rattle.lex_file.specs.Masks.{has_bit}
use Rattle.lex_file.specs.MaskShapes.{accepts_labels}
use Rattle.lex_build.specs.NodeWords.{HaveLabels, accepts_with, IsLabelWord, IsAcceptWord}
use Rattle.lex_build.specs.Stores.{AreNextArcs}

-- ---- tests of arcs

pub none_passes : (test : Arc → Bool) (arcs : List Arc) → ((arc : Arc) → Contains arcs arc → test arc ≡ false) → list_any test arcs ≡ false
none_passes test [] fails = refl
none_passes test (arc ∷ arcs) fails =
    rw (fails arc (0, omega arith, refl)) (none_passes test arcs (λ x there. fails x (is_other arc x arcs there)))

-- the labels that accept are labels
pub accepts_have : (label : ℕ) (arcs : List Arc) → list_any (accepts_with label) arcs ≡ true → list_any (has_label label) arcs ≡ true
accepts_have label [] is = is
accepts_have label (arc ∷ arcs) is = elim (or_cases (accepts_with label arc) (list_any (accepts_with label) arcs) is) [
  | inl here ↦ or_left (has_label label arc) (list_any (has_label label) arcs) (and_parts arc.accepts (eqb arc.label label) here).1
  | inr more ↦ or_right (has_label label arc) (list_any (has_label label) arcs) (accepts_have label arcs more)
]

both_with : (arc : Arc) (label : ℕ) → (arc.label ≡ label → ⊥) → accepts_with label arc ≡ false
both_with arc label differ = rw (ne_eqb arc.label label differ) (by arc.accepts)
  where
    by : (b : Bool) → (b && false) ≡ false
    by true = refl
    by false = refl

-- for arcs in rising order, whether the one with a label accepts
pub accepts_one : (arcs : List Arc) (arc : Arc) → AreRising arcs → Contains arcs arc → list_any (accepts_with arc.label) arcs ≡ arc.accepts
accepts_one [] arc rising there = absurd (none_there arc there)
accepts_one (first ∷ arcs) arc rising there = elim (first_or_other first arc arcs there) [
  | inl same ↦
      let rest : list_any (accepts_with first.label) arcs ≡ false =
      none_passes (accepts_with first.label) arcs (λ x inside. both_with x first.label (λ e. let above = rising.0 x inside in omega (arith, above, e)))
      in
      let is : eqb first.label first.label ≡ true = eq-eqb first.label first.label refl in
      subst (λ (x : Arc). list_any (accepts_with x.label) (first ∷ arcs) ≡ x.accepts) same (rw (rest, is) (by first.accepts))
  | inr other ↦
      let above = rising.0 arc other in
      rw (both_with first arc.label (λ e. omega (arith, above, e))) (accepts_one arcs arc rising.1 other)
]
  where
    by : (b : Bool) → ((b && true) || false) ≡ b
    by true = refl
    by false = refl

-- ---- a word with one more bit

module _ (word label : ℕ) (low : label < 32) where
  set_here : has_bit (bit_or word (1 * 2 ^ label % 2 ^ 32)) label ≡ true
  set_here = eq-eqb (bit_at (bit_or word (1 * 2 ^ label % 2 ^ 32)) label) 1 (bit_at_set_same w32 word label low)

  set_there : (bit : ℕ) → (bit ≡ label → ⊥) → has_bit (bit_or word (1 * 2 ^ label % 2 ^ 32)) bit ≡ has_bit word bit
  set_there bit differ = ap (λ (x : ℕ). eqb x 1) (bit_at_set_other w32 word label low bit differ)

or_true : (b : Bool) → (b || true) ≡ true
or_true true = refl
or_true false = refl

or_false : (b : Bool) → (b || false) ≡ b
or_false true = refl
or_false false = refl

or_three : (a b c : Bool) → ((a || b) || c) ≡ (a || (b || c))
or_three true b c = refl
or_three false b c = refl

-- each bit of the word: one that was set, or the new one
set_is : (word label : ℕ) → label < 32 → (bit : ℕ) (old here : Bool) → has_bit word bit ≡ old → (bit ≡ label → here ≡ true) → ((bit ≡ label → ⊥) → here ≡ false)
    → has_bit (bit_or word (1 * 2 ^ label % 2 ^ 32)) bit ≡ (old || here)
set_is word label low bit old here before at apart = elim (cases_eq bit label) [
  | inl same ↦ rw (at same, or_true) (subst (λ (b : ℕ). has_bit (bit_or word (1 * 2 ^ label % 2 ^ 32)) b ≡ true) (sym same) (set_here word label low))
  | inr other ↦ rw (apart other, or_false) (set_there word label low bit other ∙ before)
]

-- the label word of no arcs
pub no_label : IsLabelWord [] (1 * 2 ^ 31 % 2 ^ 32)
no_label = record { has = bit_is }
  where
    bit_is : (bit : ℕ) → bit < 32 → has_bit (1 * 2 ^ 31 % 2 ^ 32) bit ≡ (eqb bit 31 || false)
    bit_is bit lt = elim (cases_eq bit 31) [
      | inl same ↦ rw same refl
      | inr other ↦
          let is = ne_eqb bit 31 other in
          let none = bit_at-pow_other 31 bit other in
          rw is (ne_eqb (bit_at (2 ^ 31) bit) 1 (λ e. omega (arith, none, e)))
    ]

pub label_low : (arcs : List Arc) (place : ℕ) (d : Arc) → HaveLabels arcs → place < length arcs → (get_or arcs place d).label < 32
label_low arcs place d have lt = let low = have.each (get_or arcs place d) (Contains-get_or arcs place d lt) in omega (arith, low)

pub labels_of : (format : Format) (words : List ℕ) (arcs : List Arc) → AreNextArcs format words arcs → HaveLabels arcs
labels_of format words arcs next = record { each = λ arc there. (next.each arc there).label }

-- one more label
pub label_more : (word : ℕ) (arcs : List Arc) (place : ℕ) (d : Arc) → IsLabelWord (take place arcs) word → place < length arcs → (get_or arcs place d).label < 32
    → IsLabelWord (take (place + 1) arcs) (bit_or word (1 * 2 ^ (get_or arcs place d).label % 2 ^ 32))
label_more word arcs place d before lt low = record { has = bit_is }
  where
    bit_is : (bit : ℕ) → bit < 32 → has_bit (bit_or word (1 * 2 ^ (get_or arcs place d).label % 2 ^ 32)) bit ≡ (eqb bit 31 || list_any (has_label bit) (take (place + 1) arcs))
    bit_is bit small =
        let here = has_label bit (get_or arcs place d) in
        let set : has_bit (bit_or word (1 * 2 ^ (get_or arcs place d).label % 2 ^ 32)) bit ≡ ((eqb bit 31 || list_any (has_label bit) (take place arcs)) || here) =
        set_is word (get_or arcs place d).label low bit (eqb bit 31 || list_any (has_label bit) (take place arcs)) here (before.has bit small)
        (λ same. eq-eqb (get_or arcs place d).label bit (sym same)) (λ other. ne_eqb (get_or arcs place d).label bit (λ e. other (sym e)))
        in
        rw (list_any_more (has_label bit) arcs place d lt) (set ∙ or_three (eqb bit 31) (list_any (has_label bit) (take place arcs)) here)

-- the accept word of no arcs
pub no_accept : IsAcceptWord [] 0
no_accept = record { has = λ bit lt. let none = bit_at-zero bit in ne_eqb (bit_at 0 bit) 1 (λ e. omega (arith, none, e)) }

-- one more arc, which accepts
pub accept_more : (word : ℕ) (arcs : List Arc) (place : ℕ) (d : Arc) → IsAcceptWord (take place arcs) word → place < length arcs → (get_or arcs place d).label < 32
    → (get_or arcs place d).accepts ≡ true → IsAcceptWord (take (place + 1) arcs) (bit_or word (1 * 2 ^ (get_or arcs place d).label % 2 ^ 32))
accept_more word arcs place d before lt low does = record { has = bit_is }
  where
    bit_is : (bit : ℕ) → bit < 32 → has_bit (bit_or word (1 * 2 ^ (get_or arcs place d).label % 2 ^ 32)) bit ≡ list_any (accepts_with bit) (take (place + 1) arcs)
    bit_is bit small =
        rw (list_any_more (accepts_with bit) arcs place d lt)
        (set_is word (get_or arcs place d).label low bit (list_any (accepts_with bit) (take place arcs)) (accepts_with bit (get_or arcs place d)) (before.has bit small)
        (λ same. rw (does, eq-eqb (get_or arcs place d).label bit (sym same)) refl) (λ other. both_with (get_or arcs place d) bit (λ e. other (sym e))))

-- one more arc, which does not accept
pub accept_passed : (word : ℕ) (arcs : List Arc) (place : ℕ) (d : Arc) → IsAcceptWord (take place arcs) word → place < length arcs
    → (get_or arcs place d).accepts ≡ false → IsAcceptWord (take (place + 1) arcs) word
accept_passed word arcs place d before lt does = record {
  has = λ bit small. let step = list_any_more (accepts_with bit) arcs place d lt in rw (step, does, or_false) (before.has bit small);
}

-- ---- what the words have

module _ (arcs : List Arc) (labels accepts : ℕ) (few : (arc : Arc) → Contains arcs arc → arc.label ≤ 26) (label : IsLabelWord arcs labels) (accept : IsAcceptWord arcs accepts) where
  pub marked : has_bit labels 31 ≡ true
  marked = label.has 31 (omega arith)

  no_high : (bit : ℕ) → 27 ≤ bit → list_any (has_label bit) arcs ≡ false
  no_high bit high = none_passes (has_label bit) arcs (λ arc there. ne_eqb arc.label bit (λ e. let low = few arc there in omega (arith, low, e)))

  high_bit : (bit : ℕ) → 27 ≤ bit → bit < 31 → bit_at labels bit ≡ 0
  high_bit bit high low =
      let is = label.has bit (omega arith) in
      let other = ne_eqb bit 31 (λ e. omega (arith, e)) in
      let none = no_high bit high in
      let not_set : has_bit labels bit ≡ false = is ∙ rw (other, none) refl in
      let small = bit_at-lt labels bit in
      let differ = eqb-false (bit_at labels bit) 1 not_set in
      omega (arith, small, differ)

  pub no_bits : labels / 2 ^ 27 % 16 ≡ 0
  no_bits =
      let a = high_bit 27 (omega arith) (omega arith) in
      let b = high_bit 28 (omega arith) (omega arith) in
      let c = high_bit 29 (omega arith) (omega arith) in
      let d = high_bit 30 (omega arith) (omega arith) in
      omega (arith, a, b, c, d)

  -- the bits below 27
  low_bit : (bit : ℕ) → bit < 27 → bit_at (labels % 2 ^ 27) bit ≡ bit_at labels bit
  low_bit bit low =
      let small = mod_below labels (2 ^ 27) (pow_pos 27) in
      let whole : labels ≡ labels / 2 ^ 27 * 2 ^ 27 + labels % 2 ^ 27 = omega arith in
      sym (ap (λ (n : ℕ). bit_at n bit) whole ∙ bit_at_cat_low (labels / 2 ^ 27) 27 (labels % 2 ^ 27) bit low)

  accepts_below : (bit : ℕ) → accepts < 2 ^ 32 → has_bit accepts bit ≡ true → (bit < 27) × (has_bit labels bit ≡ true)
  accepts_below bit word is = elim (cases_lt bit 32) [
    | inl small ↦
        let some = accepts_have bit arcs (sym (accept.has bit small) ∙ is) in
        elim (cases_lt bit 27) [
          | inl low ↦ (low, label.has bit small ∙ rw some (or_true (eqb bit 31)))
          | inr high ↦ absurd (false≢true (sym (no_high bit high) ∙ some))
        ]
    | inr large ↦
        let none = bit_at_above accepts 32 bit word large in
        let one = eqb-true (bit_at accepts bit) 1 is in
        absurd (omega (arith, none, one))
  ]

  pub no_other_accepts : accepts < 2 ^ 32 → accepts_labels labels accepts ≡ true
  no_other_accepts word = eq-eqb (bit_and accepts (labels % 2 ^ 27)) accepts (same_from_bits (bit_and accepts (labels % 2 ^ 27)) accepts same)
    where
      same : (bit : ℕ) → bit_at (bit_and accepts (labels % 2 ^ 27)) bit ≡ bit_at accepts bit
      same bit = bit_at_and accepts (labels % 2 ^ 27) bit ∙ by (has_bit accepts bit) refl
        where
          by : (b : Bool) → has_bit accepts bit ≡ b → min (bit_at accepts bit) (bit_at (labels % 2 ^ 27) bit) ≡ bit_at accepts bit
          by true is =
              let there = accepts_below bit word is in
              let one = eqb-true (bit_at accepts bit) 1 is in
              let other = eqb-true (bit_at labels bit) 1 there.1 in
              let low = low_bit bit there.0 in
              omega (arith, one, other, low)
          by false is =
              let small = bit_at-lt accepts bit in
              let differ = eqb-false (bit_at accepts bit) 1 is in
              omega (arith, small, differ)

  pub accepts_each : (arc : Arc) → AreRising arcs → Contains arcs arc → has_bit accepts arc.label ≡ arc.accepts
  accepts_each arc rising there = let low = few arc there in accept.has arc.label (omega (arith, low)) ∙ accepts_one arcs arc rising there
