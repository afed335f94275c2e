-- The arcs of a GAD2 node as the code reads them.
use Rattle.std.proofs.Common.{◌≡◌, ℕ, zero, suc, ◌+◌, ◌-◌, ◌*◌, ◌/◌, ◌%◌, ◌^◌, ◌<◌, ◌≤◌, Bool, true, false, cond, leb, List, get_or, Some, None, inl, inr, refl, sym, ap, subst, ◌∙◌, add-one, arith}
use Rattle.std.specs.Prelude.{count_ones, bit_and}
use Rattle.std.proofs.lemmas.Bool.{eq-eqb, eqb-true, le-leb, lt-leb, cases_lt}
use Rattle.std.proofs.lemmas.Nat.{and_mask, ones-le, pow_pos, pow-add, mod_below, one_shl}
use Rattle.std.proofs.lemmas.Nat.Bits.{bit_at_lowest, bit_at-suc}
use Rattle.std.proofs.Math.Nat.{div-div-eq-div-mul}
use Rattle.std.specs.Int.{bit_at}
use lib.Count.{count_trailing_zeros, under}
use Rattle.lex_file.specs.Arcs.{arc_with, arc_from}
use Rattle.lex_file.specs.Masks.{has_bit, is_marked, labels_below, label_count, mask_arc, arcs_among, mask_node, labels_within, HasRoom, IsInside}
use Rattle.lex_file.specs.laws.Masks.{below_more, among_has, among_lacks, among_none}
use Rattle.lex_file.proofs.Runs.{not_equal}

-- ---- label words

pub one_above : (label : ℕ) → label ≤ 27 → 1 ≤ (1 * 2 ^ label) % 2 ^ 32
one_above label le = let one = one_shl label 32 (omega arith) in let some = pow_pos label in omega (arith, one, some)

pub below : (word label : ℕ) → label ≤ 27 → count_ones (bit_and word ((1 * 2 ^ label) % 2 ^ 32 - 1)) ≡ labels_below label word
below word label le = ap (λ (top : ℕ). count_ones (bit_and word (top - 1))) (one_shl label 32 (omega arith)) ∙ ap count_ones (and_mask word label)

pub few_labels : (word : ℕ) → label_count word ≤ 27
few_labels word = ones-le 27 (word % 2 ^ 27) (mod_below word (2 ^ 27) (pow_pos 27))

-- fewer labels are below a label of the word than below a higher one
pub below_rises : (word label more : ℕ) → has_bit word label ≡ true → labels_below label word < labels_below (suc label + more) word
below_rises word label zero is =
    let same : suc label + zero ≡ suc label = omega arith in
    rw same (let step = below_more word label in let one = eqb-true (word / 2 ^ label % 2) 1 is in omega (arith, step, one))
below_rises word label (suc more) is =
    let same : suc label + suc more ≡ suc (suc label + more) = omega arith in
    rw same (let step = below_more word (suc label + more) in let rest = below_rises word label more is in omega (arith, step, rest))

-- a label has its place among those of the word
pub place_of_label : (word label : ℕ) → has_bit word label ≡ true → label < 27 → labels_below label word < label_count word
place_of_label word label is lt =
    let same : suc label + (26 - label) ≡ 27 = omega arith in
    subst (λ (n : ℕ). labels_below label word < labels_below n word) same (below_rises word label (26 - label) is)

-- ---- a node by its number

pub room_at : (words : List ℕ) (node : ℕ) → 0 < node → HasRoom words node → IsInside words (node - 1)
room_at words zero lt room = absurd (omega arith)
room_at words (suc place) lt room = let same : suc place - 1 ≡ place = omega arith in rw same room

node_is : (words : List ℕ) (node : ℕ) → 0 < node → mask_node words node ≡ arcs_among words (node - 1) 0 27
node_is words zero lt = absurd (omega arith)
node_is words (suc place) lt = let same : suc place - 1 ≡ place = omega arith in rw same refl

-- ---- the arc with a label

among_found : (words : List ℕ) (place from count label : ℕ) → from ≤ label → label < from + count → has_bit (get_or words place 0) label ≡ true
    → arc_with label (arcs_among words place from count) ≡ Some (mask_arc words place label)
among_found words place from zero label le lt is = absurd (omega arith)
among_found words place from (suc count) label le lt is =
    by (has_bit (get_or words place 0) from) refl (λ reached. among_found words place (from + 1) count label reached (omega arith) is)
  where
    at : from ≡ label → has_bit (get_or words place 0) from ≡ true
    at same = rw same is

    by : (has : Bool) → has_bit (get_or words place 0) from ≡ has
        → (from + 1 ≤ label → arc_with label (arcs_among words place (from + 1) count) ≡ Some (mask_arc words place label))
        → arc_with label (arcs_among words place from (suc count)) ≡ Some (mask_arc words place label)
    by true first more = elim (cases_lt from label) [
      | inl less ↦
          let apart = not_equal from label (λ e. absurd (omega arith)) in
          rw (among_has words place from count first) (rw apart (more (omega arith)))
      | inr after ↦
          let same : from ≡ label = omega arith in
          let equal = eq-eqb from label same in
          rw (among_has words place from count first) (rw equal (ap (λ (l : ℕ). Some (mask_arc words place l)) same))
    ]
    by false first more = elim (cases_lt from label) [
      | inl less ↦ rw (among_lacks words place from count first) (more (omega arith))
      | inr after ↦ let same : from ≡ label = omega arith in let yes_bit = sym first ∙ at same in absurd cc
    ]

among_missing : (words : List ℕ) (place from count label : ℕ) → has_bit (get_or words place 0) label ≡ false → arc_with label (arcs_among words place from count) ≡ None
among_missing words place from zero label no_bit = rw (among_none words place from) refl
among_missing words place from (suc count) label no_bit = by (has_bit (get_or words place 0) from) refl (among_missing words place (from + 1) count label no_bit)
  where
    differ : has_bit (get_or words place 0) from ≡ true → from ≡ label → ⊥
    differ first same = let there : has_bit (get_or words place 0) label ≡ true = rw (← same) first in let clash = sym no_bit ∙ there in absurd cc

    by : (has : Bool) → has_bit (get_or words place 0) from ≡ has → arc_with label (arcs_among words place (from + 1) count) ≡ None
        → arc_with label (arcs_among words place from (suc count)) ≡ None
    by true first more = let apart = not_equal from label (differ first) in rw (among_has words place from count first) (rw apart more)
    by false first more = rw (among_lacks words place from count first) more

among_over : (words : List ℕ) (place from count label : ℕ) → from + count ≤ label → arc_with label (arcs_among words place from count) ≡ None
among_over words place from zero label le = rw (among_none words place from) refl
among_over words place from (suc count) label le = by (has_bit (get_or words place 0) from) refl (among_over words place (from + 1) count label (omega arith))
  where
    by : (has : Bool) → has_bit (get_or words place 0) from ≡ has → arc_with label (arcs_among words place (from + 1) count) ≡ None
        → arc_with label (arcs_among words place from (suc count)) ≡ None
    by true first more = let apart = not_equal from label (λ e. absurd (omega arith)) in rw (among_has words place from count first) (rw apart more)
    by false first more = rw (among_lacks words place from count first) more

pub found : (words : List ℕ) (node label : ℕ) → 0 < node → label < 27 → has_bit (get_or words (node - 1) 0) label ≡ true
    → arc_with label (mask_node words node) ≡ Some (mask_arc words (node - 1) label)
found words node label some lt is = rw (node_is words node some) (among_found words (node - 1) 0 27 label (omega arith) (omega arith) is)

pub lacking : (words : List ℕ) (node label : ℕ) → 0 < node → has_bit (get_or words (node - 1) 0) label ≡ false → arc_with label (mask_node words node) ≡ None
lacking words node label some no_bit = rw (node_is words node some) (among_missing words (node - 1) 0 27 label no_bit)

pub over : (words : List ℕ) (node label : ℕ) → 27 ≤ label → arc_with label (mask_node words node) ≡ None
over words zero label le = refl
over words (suc place) label le = among_over words place 0 27 label (omega arith)

-- ---- the first arc from a label on

skip : (words : List ℕ) (place from count label : ℕ) → from ≤ label
    → arc_from label (arcs_among words place from count) ≡ arc_from label (arcs_among words place label (from + count - label))
skip words place from zero label le =
    let none : from + zero - label ≡ zero = omega arith in
    rw none (rw (among_none words place from, among_none words place label) refl)
skip words place from (suc count) label le = elim (cases_lt from label) [
  | inl less ↦
      let same : from + 1 + count - label ≡ from + suc count - label = omega arith in
      by (has_bit (get_or words place 0) from) refl less (subst (λ (n : ℕ). arc_from label (arcs_among words place (from + 1) count) ≡ arc_from label (arcs_among words place label n)) same
      (skip words place (from + 1) count label (omega arith)))
  | inr after ↦
      let same : from ≡ label = omega arith in
      let size : from + suc count - label ≡ suc count = omega arith in
      rw size (ap (λ (l : ℕ). arc_from label (arcs_among words place l (suc count))) same)
]
  where
    by : (has : Bool) → has_bit (get_or words place 0) from ≡ has → from < label
        → arc_from label (arcs_among words place (from + 1) count) ≡ arc_from label (arcs_among words place label (from + suc count - label))
        → arc_from label (arcs_among words place from (suc count)) ≡ arc_from label (arcs_among words place label (from + suc count - label))
    by true first less more =
        let below_it : leb label from ≡ false = lt-leb label from less in
        let drops : arc_from label (arcs_among words place from (suc count)) ≡ arc_from label (arcs_among words place (from + 1) count) =
        rw (among_has words place from count first) (rw below_it refl) in
        drops ∙ more
    by false first less more = ap (λ arcs. arc_from label arcs) (among_lacks words place from count first) ∙ more

starts_from : (words : List ℕ) (node label : ℕ) → 0 < node
    → arc_from label (mask_node words node) ≡ arc_from label (arcs_among words (node - 1) label (27 - label))
starts_from words node label some = rw (node_is words node some) (skip words (node - 1) 0 27 label (omega arith))

here_from : (words : List ℕ) (place label next : ℕ) → label ≤ next → next < 27 → has_bit (get_or words place 0) next ≡ true
    → arc_from label (arcs_among words place next (27 - next)) ≡ Some (mask_arc words place next)
here_from words place label next le lt is =
    let size : 27 - next ≡ suc (26 - next) = omega arith in
    let reached : leb label next ≡ true = le-leb label next le in
    rw size (rw (among_has words place next (26 - next) is) (rw reached refl))

further_from : (words : List ℕ) (place label next : ℕ) → next < 27 → has_bit (get_or words place 0) next ≡ false
    → arc_from label (arcs_among words place next (27 - next)) ≡ arc_from label (arcs_among words place (next + 1) (27 - (next + 1)))
further_from words place label next lt no_bit =
    let size : 27 - next ≡ suc (26 - next) = omega arith in
    let rest : 27 - (next + 1) ≡ 26 - next = omega arith in
    rw (size, rest) (rw (among_lacks words place next (26 - next) no_bit) refl)

past_from : (words : List ℕ) (place label next : ℕ) → 27 ≤ next → arc_from label (arcs_among words place next (27 - next)) ≡ None
past_from words place label next le =
    let size : 27 - next ≡ zero = omega arith in
    rw size (rw (among_none words place next) refl)

-- ---- the lowest bit of a word after some others

clear_step : (n i bit rest : ℕ) → n % 2 ≡ bit → i < under bit rest → ((j : ℕ) → j < rest → bit_at (n / 2) j ≡ 0) → bit_at n i ≡ 0
clear_step n i (suc bit) rest e lt more = absurd (omega arith)
clear_step n zero zero rest e lt more = bit_at_lowest n ∙ e
clear_step n (suc i) zero rest e lt more = bit_at-suc n i ∙ more i (omega arith)

clear_below : (width n i : ℕ) → i < count_trailing_zeros width n → bit_at n i ≡ 0
unfolding count_trailing_zeros
clear_below zero n i lt = absurd (omega arith)
clear_below (suc width) n i lt = clear_step n i (n % 2) (count_trailing_zeros width (n / 2)) refl lt (clear_below width (n / 2))

set_step : (n bit rest width : ℕ) → n % 2 ≡ bit → under bit rest < suc width → (rest < width → bit_at (n / 2) rest ≡ 1) → bit_at n (under bit rest) ≡ 1
set_step n zero rest width e lt more = bit_at-suc n rest ∙ more (omega arith)
set_step n (suc bit) rest width e lt more = bit_at_lowest n ∙ (let small = mod_below n 2 (omega arith) in omega (arith, e, small))

set_there : (width n : ℕ) → count_trailing_zeros width n < width → bit_at n (count_trailing_zeros width n) ≡ 1
unfolding count_trailing_zeros
set_there zero n lt = absurd (omega arith)
set_there (suc width) n lt = set_step n (n % 2) (count_trailing_zeros width (n / 2)) width refl lt (set_there width (n / 2))

bit_after : (word label i : ℕ) → bit_at (word / 2 ^ label) i ≡ bit_at word (label + i)
bit_after word label i = ap (λ (n : ℕ). n % 2) (div-div-eq-div-mul word (2 ^ label) (2 ^ i) ∙ ap (λ (n : ℕ). word / n) (sym (pow-add 2 label i)))

lacks_at : (word label i : ℕ) → i < count_trailing_zeros 32 (word / 2 ^ label) → has_bit word (label + i) ≡ false
lacks_at word label i lt = let none = sym (bit_after word label i) ∙ clear_below 32 (word / 2 ^ label) i lt in rw none refl

-- no bit of a word lies between a place and the next bit from there on
pub lacks_before : (word from label : ℕ) → from ≤ label → label < from + count_trailing_zeros 32 (word / 2 ^ from) → has_bit word label ≡ false
lacks_before word from label le lt =
    let same : from + (label - from) ≡ label = omega arith in
    subst (λ (n : ℕ). has_bit word n ≡ false) same (lacks_at word from (label - from) (omega arith))

pub lacks_all : (word from label : ℕ) → 27 ≤ from + count_trailing_zeros 32 (word / 2 ^ from) → from ≤ label → label < 27 → has_bit word label ≡ false
lacks_all word from label past le lt = lacks_before word from label le (omega arith)

pub has_next : (word label : ℕ) → label + count_trailing_zeros 32 (word / 2 ^ label) < 27 → has_bit word (label + count_trailing_zeros 32 (word / 2 ^ label)) ≡ true
has_next word label lt =
    let next = count_trailing_zeros 32 (word / 2 ^ label) in
    let one = sym (bit_after word label next) ∙ set_there 32 (word / 2 ^ label) (omega arith) in
    eq-eqb (word / 2 ^ (label + next) % 2) 1 one

over_clear : (words : List ℕ) (place label count : ℕ) → label + count ≤ 27
    → ((i : ℕ) → i < count → has_bit (get_or words place 0) (label + i) ≡ false)
    → arc_from label (arcs_among words place label (27 - label)) ≡ arc_from label (arcs_among words place (label + count) (27 - (label + count)))
over_clear words place label zero le clear = let same : label + zero ≡ label = omega arith in rw same refl
over_clear words place label (suc count) le clear =
    let same : label + count + 1 ≡ label + suc count = omega arith in
    over_clear words place label count (omega arith) (λ i lt. clear i (omega arith))
    ∙ subst (λ (n : ℕ). arc_from label (arcs_among words place (label + count) (27 - (label + count))) ≡ arc_from label (arcs_among words place n (27 - n))) same
    (further_from words place label (label + count) (omega arith) (clear count (omega arith)))

pub next_from : (words : List ℕ) (node label next : ℕ) → 0 < node → has_bit (get_or words (node - 1) 0) next ≡ true → label ≤ next → next < 27
    → ((l : ℕ) → label ≤ l → l < next → has_bit (get_or words (node - 1) 0) l ≡ false)
    → arc_from label (mask_node words node) ≡ Some (mask_arc words (node - 1) next)
next_from words node label next some has le lt clear =
    let same : label + (next - label) ≡ next = omega arith in
    starts_from words node label some
    ∙ over_clear words (node - 1) label (next - label) (omega arith) (λ i few. clear (label + i) (omega arith) (omega arith))
    ∙ subst (λ (n : ℕ). arc_from label (arcs_among words (node - 1) n (27 - n)) ≡ Some (mask_arc words (node - 1) next)) (sym same)
    (here_from words (node - 1) label next le lt has)

pub none_from : (words : List ℕ) (node label : ℕ) → 0 < node → label < 27
    → ((l : ℕ) → label ≤ l → l < 27 → has_bit (get_or words (node - 1) 0) l ≡ false)
    → arc_from label (mask_node words node) ≡ None
none_from words node label some low clear =
    starts_from words node label some
    ∙ over_clear words (node - 1) label (27 - label) (omega arith) (λ i few. clear (label + i) (omega arith) (omega arith))
    ∙ past_from words (node - 1) label (label + (27 - label)) (omega arith)

pub over_from : (words : List ℕ) (node label : ℕ) → 27 ≤ label → arc_from label (mask_node words node) ≡ None
over_from words zero label le = refl
over_from words (suc place) label le = starts_from words (suc place) label (omega arith) ∙ past_from words (suc place - 1) label label le

-- ---- the number of labels

pub none_within : (words : List ℕ) → labels_within words 0 ≡ 0
unfolding labels_within
none_within words = refl

pub node_within : (words : List ℕ) (place : ℕ) → is_marked (get_or words place 0) ≡ true
    → labels_within words (place + 1) ≡ labels_within words place + label_count (get_or words place 0)
unfolding labels_within
node_within words place is = rw add-one (rw is refl)

pub word_within : (words : List ℕ) (place : ℕ) → is_marked (get_or words place 0) ≡ false → labels_within words (place + 1) ≡ labels_within words place
unfolding labels_within
word_within words place is = rw add-one (rw is (omega arith))

pub few_within : (words : List ℕ) (place : ℕ) → labels_within words place ≤ 27 * place
unfolding labels_within
few_within words zero = omega arith
few_within words (suc place) = by (is_marked (get_or words place 0)) (few_within words place) (few_labels (get_or words place 0))
  where
    by : (has : Bool) → labels_within words place ≤ 27 * place → label_count (get_or words place 0) ≤ 27
        → labels_within words place + cond has (label_count (get_or words place 0)) 0 ≤ 27 * suc place
    by true low few = omega arith
    by false low few = omega arith
