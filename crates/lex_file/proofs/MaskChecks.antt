-- Steps of the pass over the nodes of a GAD2 file.
use Rattle.std.proofs.Common.{◌≡◌, ℕ, zero, suc, ◌+◌, ◌-◌, ◌<◌, ◌≤◌, Bool, true, false, cond, List, length, get_or, Some, None, inl, inr, refl, subst, add-one, arith}
use Rattle.std.proofs.lemmas.Bool.{cases_lt, lt-ltb, le-ltb}
use Rattle.lex_file.specs.declared.faults.FileFault.{FileFault}
use Rattle.lex_file.specs.Masks.{has_bit, label_count, node_size}
use Rattle.lex_file.specs.MaskShapes.{label_fault, labels_fault, node_fault, nodes_fault}
use Rattle.lex_file.specs.laws.Masks.{node_facts}

-- ---- the labels of a node

pub labels_none : (words : List ℕ) (place : ℕ) → labels_fault words place 0 ≡ None
unfolding labels_fault
labels_none words place = refl

pub label_more : (words : List ℕ) (place label : ℕ) → labels_fault words place label ≡ None → label_fault words place label ≡ None
    → labels_fault words place (label + 1) ≡ None
unfolding labels_fault
label_more words place label before here = rw add-one (rw before (by (has_bit (get_or words place 0) label)))
  where
    by : (has : Bool) → cond has (label_fault words place label) None ≡ None
    by true = here
    by false = refl

label_passed : (words : List ℕ) (place label : ℕ) → labels_fault words place label ≡ None → has_bit (get_or words place 0) label ≡ false
    → labels_fault words place (suc label) ≡ None
unfolding labels_fault
label_passed words place label before no_bit = rw (before, no_bit) refl

-- numbers that are not labels of a node have no fault
pub labels_passed : (words : List ℕ) (place from next : ℕ) → labels_fault words place from ≡ None → from ≤ next
    → ((label : ℕ) → from ≤ label → label < next → has_bit (get_or words place 0) label ≡ false) → labels_fault words place next ≡ None
labels_passed words place from zero before le clear = let same : from ≡ zero = omega arith in subst (λ (n : ℕ). labels_fault words place n ≡ None) same before
labels_passed words place from (suc next) before le clear =
    elim (cases_lt from (suc next)) [
      | inl less ↦
          label_passed words place next (labels_passed words place from next before (omega arith) (λ label low lt. clear label low (omega arith)))
          (clear next (omega arith) (omega arith))
      | inr after ↦ let same : from ≡ suc next = omega arith in subst (λ (n : ℕ). labels_fault words place n ≡ None) same before
    ]

pub labels_end : (words : List ℕ) (place from : ℕ) → labels_fault words place from ≡ None → from ≤ 27
    → ((label : ℕ) → from ≤ label → label < 27 → has_bit (get_or words place 0) label ≡ false) → labels_fault words place 27 ≡ None
labels_end words place from = labels_passed words place from 27

fault_at : (words : List ℕ) (place label : ℕ) (fault : FileFault) → labels_fault words place label ≡ None → has_bit (get_or words place 0) label ≡ true
    → label_fault words place label ≡ Some fault → labels_fault words place (suc label) ≡ Some fault
unfolding labels_fault
fault_at words place label fault before has here = rw (before, has, here) refl

fault_stays : (words : List ℕ) (place count more : ℕ) (fault : FileFault) → labels_fault words place count ≡ Some fault → count ≤ more
    → labels_fault words place more ≡ Some fault
unfolding labels_fault
fault_stays words place count zero fault e le = let same : count ≡ zero = omega arith in subst (λ (n : ℕ). labels_fault words place n ≡ Some fault) same e
fault_stays words place count (suc more) fault e le =
    elim (cases_lt count (suc more)) [
      | inl before ↦ let there = fault_stays words place count more fault e (omega arith) in rw there refl
      | inr after ↦ let same : count ≡ suc more = omega arith in subst (λ (n : ℕ). labels_fault words place n ≡ Some fault) same e
    ]

pub label_here : (words : List ℕ) (place label : ℕ) (fault : FileFault) → label < 27 → labels_fault words place label ≡ None
    → has_bit (get_or words place 0) label ≡ true → label_fault words place label ≡ Some fault → labels_fault words place 27 ≡ Some fault
label_here words place label fault lt before has here = fault_stays words place (suc label) 27 fault (fault_at words place label fault before has here) (omega arith)

-- ---- the nodes

-- the number that is left does not matter if it is enough for the nodes
same_remaining : (words : List ℕ) (remaining more place : ℕ) → length words ≤ place + remaining → length words ≤ place + more → nodes_fault words remaining place ≡ nodes_fault words more place
unfolding nodes_fault
same_remaining words zero zero place l m = refl
same_remaining words zero (suc more) place l m = let past = le-ltb place (length words) (omega arith) in rw past refl
same_remaining words (suc remaining) zero place l m = let past = le-ltb place (length words) (omega arith) in rw past refl
same_remaining words (suc remaining) (suc more) place l m =
    let rest = same_remaining words remaining more (place + node_size (get_or words place 0)) (omega arith) (omega arith) in
    rw rest refl

pub node_inside : (words : List ℕ) (place : ℕ) → node_fault words place ≡ None → place + (2 + label_count (get_or words place 0)) ≤ length words
node_inside words place e = (node_facts words place e).room

-- a node without a fault is skipped
pub nodes_more : (words : List ℕ) (place : ℕ) → place < length words → node_fault words place ≡ None
    → nodes_fault words (length words - place) place
    ≡ nodes_fault words (length words - (place + (2 + label_count (get_or words place 0)))) (place + (2 + label_count (get_or words place 0)))
unfolding nodes_fault
nodes_more words place lt e =
    let size : length words - place ≡ suc (length words - place - 1) = omega arith in
    let inside = lt-ltb place (length words) lt in
    let rest = same_remaining words (length words - place - 1) (length words - (place + node_size (get_or words place 0))) (place + node_size (get_or words place 0)) (omega arith) (omega arith) in
    rw size (rw (inside, e) rest)

pub nodes_here : (words : List ℕ) (place : ℕ) (fault : FileFault) → place < length words → node_fault words place ≡ Some fault
    → nodes_fault words (length words - place) place ≡ Some fault
unfolding nodes_fault
nodes_here words place fault lt e =
    let size : length words - place ≡ suc (length words - place - 1) = omega arith in
    let inside = lt-ltb place (length words) lt in
    rw size (rw (inside, e) refl)

pub nodes_end : (words : List ℕ) (place : ℕ) → length words ≤ place → nodes_fault words (length words - place) place ≡ None
unfolding nodes_fault
nodes_end words place le = let none : length words - place ≡ zero = omega arith in rw none refl
