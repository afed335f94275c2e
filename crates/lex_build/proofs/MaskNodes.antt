-- The arcs of a node in a GAD2 file, from its label word, its accept word and its targets.
use Rattle.std.proofs.Common.{◌≡◌, ℕ, zero, suc, ◌+◌, ◌-◌, ◌/◌, ◌%◌, ◌^◌, ◌<◌, ◌≤◌, Bool, true, false, cond, ◌&&◌, ◌||◌, eqb, ltb, List, [], ◌∷◌, map, length, get_or, drop, None, inl, inr, refl, sym, subst, ◌∙◌, arith}
use Rattle.std.proofs.lemmas.Bool.{ne_eqb, eq-eqb, eqb-true, eqb-false, lt-ltb, le-leb, cases_eq, and_from}
use Rattle.std.proofs.lemmas.Nat.Bits.{bit_at-lt}
use Rattle.std.specs.List.{Contains, list_any}
use Rattle.lex_file.specs.declared.arcs.Arc.{Arc}
use Rattle.lex_file.specs.Arcs.{has_label}
use Rattle.lex_file.specs.Graphs.{AreRising}
use Rattle.lex_file.specs.laws.Graphs.{first_or_other, is_other, none_there, found_there}
use Rattle.lex_file.specs.Masks.{has_bit, labels_below, label_count, node_size, mask_arc, arcs_among, is_mask_node}
use Rattle.lex_file.specs.MaskShapes.{points_back, label_fault, labels_fault, node_fault}
use Rattle.lex_file.specs.laws.Masks.{IsFineNode, below_more, among_has, among_lacks, among_none}
use Rattle.lex_file.proofs.MaskRuns.{found}
use Rattle.lex_build.proofs.Growth.{or_right}
use Rattle.lex_build.proofs.MaskBits.{none_passes}

-- ---- the words of a list from a place on

pub word_there : (words : List ℕ) (place word : ℕ) (rest : List ℕ) → drop place words ≡ word ∷ rest → get_or words place 0 ≡ word
word_there [] zero word rest e = absurd cc
word_there [] (suc place) word rest e = absurd cc
word_there (first ∷ words) zero word rest e = cc
word_there (first ∷ words) (suc place) word rest e = word_there words place word rest e

pub words_after : (words : List ℕ) (place word : ℕ) (rest : List ℕ) → drop place words ≡ word ∷ rest → drop (suc place) words ≡ rest
words_after [] zero word rest e = absurd cc
words_after [] (suc place) word rest e = absurd cc
words_after (first ∷ words) zero word rest e = cc
words_after (first ∷ words) (suc place) word rest e = words_after words place word rest e

-- ---- arcs from a label on

-- what is left of the arcs of the node at a place, from a label on
pub record AreFrom (words : List ℕ) (place from : ℕ) (arcs : List Arc) : Type 0 where
  pub reached : (arc : Arc) → Contains arcs arc → from ≤ arc.label
  pub few : (arc : Arc) → Contains arcs arc → arc.label ≤ 26
  pub rising : AreRising arcs
  pub labels : (label : ℕ) → from ≤ label → label ≤ 26 → has_bit (get_or words place 0) label ≡ list_any (has_label label) arcs
  pub accepts : (arc : Arc) → Contains arcs arc → has_bit (get_or words (place + 1) 0) arc.label ≡ arc.accepts
  pub targets : drop (place + 2 + labels_below from (get_or words place 0)) words ≡ map (λ (arc : Arc). arc.target) arcs

bit_below : (word from : ℕ) → has_bit word from ≡ true → labels_below (from + 1) word ≡ suc (labels_below from word)
bit_below word from is =
    let same : from + 1 ≡ suc from = omega arith in
    let step = below_more word from in
    let one = eqb-true (word / 2 ^ from % 2) 1 is in
    rw same (omega (arith, step, one))

no_bit_below : (word from : ℕ) → has_bit word from ≡ false → labels_below (from + 1) word ≡ labels_below from word
no_bit_below word from is =
    let same : from + 1 ≡ suc from = omega arith in
    let step = below_more word from in
    let small = bit_at-lt word from in
    let other = eqb-false (word / 2 ^ from % 2) 1 is in
    rw same (omega (arith, step, small, other))

-- a label that no arc has
lacks : (words : List ℕ) (place from : ℕ) (arcs : List Arc) → AreFrom words place from arcs → from ≤ 26 → ((arc : Arc) → Contains arcs arc → from < arc.label)
    → has_bit (get_or words place 0) from ≡ false
lacks words place from arcs remaining le above =
    remaining.labels from (omega arith) le ∙ none_passes (has_label from) arcs (λ arc there. ne_eqb arc.label from (λ e. let lt = above arc there in omega (arith, lt, e)))

over_label : (words : List ℕ) (place from : ℕ) (arcs : List Arc) → AreFrom words place from arcs → from ≤ 26 → ((arc : Arc) → Contains arcs arc → from < arc.label)
    → AreFrom words place (from + 1) arcs
over_label words place from arcs remaining le above = record {
  reached = λ arc there. let lt = above arc there in omega (arith, lt);
  few = remaining.few;
  rising = remaining.rising;
  labels = λ label reached small. remaining.labels label (omega arith) small;
  accepts = remaining.accepts;
  targets = rw (no_bit_below (get_or words place 0) from (lacks words place from arcs remaining le above)) remaining.targets;
}

-- the label of the first arc
has_first : (words : List ℕ) (place : ℕ) (arc : Arc) (arcs : List Arc) → AreFrom words place arc.label (arc ∷ arcs) → has_bit (get_or words place 0) arc.label ≡ true
has_first words place arc arcs remaining =
    let low = remaining.few arc (0, omega arith, refl) in
    let same : eqb arc.label arc.label ≡ true = eq-eqb arc.label arc.label refl in
    remaining.labels arc.label (omega arith) low ∙ rw same refl

over_arc : (words : List ℕ) (place : ℕ) (arc : Arc) (arcs : List Arc) → AreFrom words place arc.label (arc ∷ arcs) → AreFrom words place (arc.label + 1) arcs
over_arc words place arc arcs remaining = record {
  reached = λ other there. let lt = remaining.rising.0 other there in omega (arith, lt);
  few = λ other there. remaining.few other (is_other arc other arcs there);
  rising = remaining.rising.1;
  labels = λ label reached small. let is = ne_eqb arc.label label (λ e. omega (arith, e)) in remaining.labels label (omega arith) small ∙ rw is refl;
  accepts = λ other there. remaining.accepts other (is_other arc other arcs there);
  targets =
      let next = bit_below (get_or words place 0) arc.label (has_first words place arc arcs remaining) in
      let following : place + 2 + suc (labels_below arc.label (get_or words place 0)) ≡ suc (place + 2 + labels_below arc.label (get_or words place 0)) = omega arith in
      rw (next, following)
      (words_after words (place + 2 + labels_below arc.label (get_or words place 0)) arc.target (map (λ (other : Arc). other.target) arcs) remaining.targets);
}

first_is : (words : List ℕ) (place : ℕ) (arc : Arc) (arcs : List Arc) → AreFrom words place arc.label (arc ∷ arcs) → mask_arc words place arc.label ≡ arc
first_is words place arc arcs remaining =
    let accepts = remaining.accepts arc (0, omega arith, refl) in
    let target : get_or words (place + 2 + labels_below arc.label (get_or words place 0)) 0 ≡ arc.target =
    word_there words (place + 2 + labels_below arc.label (get_or words place 0)) arc.target (map (λ (other : Arc). other.target) arcs) remaining.targets
    in
    rw (accepts, target) refl

-- what the node at a place has from a label on
pub record HasFrom (words : List ℕ) (place from count : ℕ) (arcs : List Arc) : Type 0 where
  pub arcs_are : arcs_among words place from count ≡ arcs
  pub count_is : label_count (get_or words place 0) ≡ labels_below from (get_or words place 0) + length arcs

arc_before : (words : List ℕ) (place count : ℕ) (arc : Arc) (arcs : List Arc) → AreFrom words place arc.label (arc ∷ arcs) → HasFrom words place (arc.label + 1) count arcs
    → HasFrom words place arc.label (suc count) (arc ∷ arcs)
arc_before words place count arc arcs remaining more =
    let is = has_first words place arc arcs remaining in
    record {
      arcs_are = among_has words place arc.label count is ∙ rw (first_is words place arc arcs remaining, more.arcs_are) refl;
      count_is = let next = bit_below (get_or words place 0) arc.label is in let rest = more.count_is in omega (arith, next, rest);
    }

label_before : (words : List ℕ) (place from count : ℕ) (arcs : List Arc) → has_bit (get_or words place 0) from ≡ false → HasFrom words place (from + 1) count arcs
    → HasFrom words place from (suc count) arcs
label_before words place from count arcs is more = record {
  arcs_are = among_lacks words place from count is ∙ more.arcs_are;
  count_is = let same = no_bit_below (get_or words place 0) from is in let rest = more.count_is in omega (arith, same, rest);
}

-- the arcs of the node are those that are left
pub have_arcs : (words : List ℕ) (place from count : ℕ) (arcs : List Arc) → from + count ≡ 27 → AreFrom words place from arcs → HasFrom words place from count arcs
have_arcs words place from zero [] size remaining =
    let same : from ≡ 27 = omega arith in
    record { arcs_are = among_none words place from; count_is = rw same (omega arith) }
have_arcs words place from zero (arc ∷ arcs) size remaining =
    let low = remaining.few arc (0, omega arith, refl) in
    let high = remaining.reached arc (0, omega arith, refl) in
    absurd (omega (arith, low, high))
have_arcs words place from (suc count) [] size remaining =
    let above : (arc : Arc) → Contains [] arc → from < arc.label = λ arc there. absurd (none_there arc there) in
    label_before words place from count [] (lacks words place from [] remaining (omega arith) above)
    (have_arcs words place (from + 1) count [] (omega arith) (over_label words place from [] remaining (omega arith) above))
have_arcs words place from (suc count) (arc ∷ arcs) size remaining = elim (cases_eq from arc.label) [
  | inl same ↦
      let at = subst (λ (n : ℕ). AreFrom words place n (arc ∷ arcs)) same remaining in
      subst (λ (n : ℕ). HasFrom words place n (suc count) (arc ∷ arcs)) (sym same)
      (arc_before words place count arc arcs at (have_arcs words place (arc.label + 1) count arcs (omega arith) (over_arc words place arc arcs at)))
  | inr other ↦
      let first = remaining.reached arc (0, omega arith, refl) in
      let above : (x : Arc) → Contains (arc ∷ arcs) x → from < x.label = above_all (omega arith) remaining.rising in
      label_before words place from count (arc ∷ arcs) (lacks words place from (arc ∷ arcs) remaining (omega arith) above)
      (have_arcs words place (from + 1) count (arc ∷ arcs) (omega arith) (over_label words place from (arc ∷ arcs) remaining (omega arith) above))
]
  where
    above_all : from < arc.label → AreRising (arc ∷ arcs) → (x : Arc) → Contains (arc ∷ arcs) x → from < x.label
    above_all lt rising x there = elim (first_or_other arc x arcs there) [
      | inl same ↦ rw (← same) lt
      | inr other ↦ let more = rising.0 x other in omega (arith, lt, more)
    ]

-- an arc of the node for each label of its label word
pub among_contains : (words : List ℕ) (place label : ℕ) → label < 27 → has_bit (get_or words place 0) label ≡ true
    → Contains (arcs_among words place 0 27) (mask_arc words place label)
among_contains words place label lt is =
    let same : suc place - 1 ≡ place = omega arith in
    found_there (has_label label) (arcs_among words place 0 27) (mask_arc words place label) (rw same at (found words (suc place) label (omega arith) lt (rw same is)))

-- ---- a node without a fault

pub points_to_none : (words : List ℕ) (n target : ℕ) → target ≡ 0 → points_back words n target ≡ true
points_to_none words n target none = rw none refl

pub points_from : (words : List ℕ) (n target : ℕ) → target < n → is_mask_node words target ≡ true → points_back words n target ≡ true
points_from words n target lt is = or_right (eqb target 0) (ltb target n && is_mask_node words target) (and_from (ltb target n) (is_mask_node words target) (lt-ltb target n lt) is)

pub label_from : (words : List ℕ) (place label : ℕ) → points_back words (place + 1) (mask_arc words place label).target ≡ true
    → ((mask_arc words place label).accepts || ltb 0 (mask_arc words place label).target) ≡ true → label_fault words place label ≡ None
unfolding label_fault
label_from words place label target alive = rw (target, alive) refl

pub labels_from : (words : List ℕ) (place count : ℕ) → ((label : ℕ) → label < count → has_bit (get_or words place 0) label ≡ true → label_fault words place label ≡ None)
    → labels_fault words place count ≡ None
unfolding labels_fault
labels_from words place zero each = refl
labels_from words place (suc count) each =
    let before = labels_from words place count (λ label lt is. each label (omega arith) is) in
    rw before (by (has_bit (get_or words place 0) count) refl)
  where
    by : (has : Bool) → has_bit (get_or words place 0) count ≡ has → cond has (label_fault words place count) None ≡ None
    by true is = each count (omega arith) is
    by false is = refl

pub node_from : (words : List ℕ) (place : ℕ) → IsFineNode words place → node_fault words place ≡ None
unfolding node_fault
node_from words place fine =
    let marked = fine.marked in
    let mask = fine.mask in
    let room = le-leb (place + node_size (get_or words place 0)) (length words) fine.room in
    let accepts = fine.accepts in
    let labels = fine.labels in
    rw (marked, mask, room, accepts, labels) refl
