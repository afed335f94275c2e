-- What follows for the strings that the arcs of a sound graph spell: lemmas for the laws of a lexicon that is walked.
use Rattle.std.proofs.Common.{◌≡◌, ℕ, zero, suc, ◌<◌, ◌≤◌, Bool, true, false, cond, ◌||◌, ltb, List, [], ◌∷◌, length, Option, Some, None, inl, inr, ◌⊎◌, refl, sym, subst, ◌∙◌, arith}
use Rattle.std.specs.Prelude.{IsTrue}
use Rattle.std.proofs.lemmas.Bool.{eqb-true, false≢true, and_from, lt-ltb}
use Rattle.std.specs.List.{Contains, find, list_all}
use Rattle.lex_file.specs.declared.arcs.Arc.{Arc}
use Rattle.lex_file.specs.Arcs.{has_label, arc_with, accepts_of, target_of}
use Rattle.lex_file.specs.Lexicons.{is_label}
use Rattle.lex_file.specs.Languages.{tail_in}
use Rattle.lex_file.specs.Graphs.{IsSoundArc, AreRising, IsSoundGraph}

-- ---- an element of a list is its first or one of the others

pub first_or_other : (arc x : Arc) (arcs : List Arc) → Contains (arc ∷ arcs) x → (arc ≡ x) ⊎ Contains arcs x
first_or_other arc x arcs (zero, lt, at) = inl at
first_or_other arc x arcs (suc place, lt, at) = inr (place, omega arith, at)

pub is_other : (arc x : Arc) (arcs : List Arc) → Contains arcs x → Contains (arc ∷ arcs) x
is_other arc x arcs (place, lt, at) = (suc place, omega arith, at)

pub none_there : (x : Arc) → Contains [] x → ⊥
none_there x (place, lt, at) = absurd (omega arith)

pub found_there : (test : Arc → Bool) (arcs : List Arc) (arc : Arc) → find test arcs ≡ Some arc → Contains arcs arc
found_there test [] arc e = absurd cc
found_there test (first ∷ arcs) arc e = by (test first) e (found_there test arcs arc)
  where
    by : (passes : Bool) → cond passes (Some first) (find test arcs) ≡ Some arc → (find test arcs ≡ Some arc → Contains arcs arc) → Contains (first ∷ arcs) arc
    by true h f = let same : first ≡ arc = cc in (0, omega arith, same)
    by false h f = is_other first arc arcs (f h)

pub found_passes : (test : Arc → Bool) (arcs : List Arc) (arc : Arc) → find test arcs ≡ Some arc → test arc ≡ true
found_passes test [] arc e = absurd cc
found_passes test (first ∷ arcs) arc e = by (test first) refl e (found_passes test arcs arc)
  where
    by : (passes : Bool) → test first ≡ passes → cond passes (Some first) (find test arcs) ≡ Some arc → (find test arcs ≡ Some arc → test arc ≡ true) → test arc ≡ true
    by true t h f = let same : first ≡ arc = cc in rw (← same) t
    by false t h f = f h

-- ---- the arc with a label

pub or_cases : (a b : Bool) → (a || b) ≡ true → (a ≡ true) ⊎ (b ≡ true)
or_cases true b e = inl refl
or_cases false b e = inr e

-- the arc of a node with a label is sound
pub arc_sound : (node : ℕ → List Arc) (is_node : ℕ → Bool) → IsSoundGraph node is_node → (n label : ℕ) (arc : Arc) → IsTrue (is_node n)
    → arc_with label (node n) ≡ Some arc → IsSoundArc is_node n arc
arc_sound node is_node graph n label arc is e = graph.arcs n arc is (found_there (has_label label) (node n) arc e)

pub arc_label : (label : ℕ) (arcs : List Arc) (arc : Arc) → arc_with label arcs ≡ Some arc → arc.label ≡ label
arc_label label arcs arc e = eqb-true arc.label label (found_passes (has_label label) arcs arc e)

-- ---- the tails of a node

pub none_of_zero : (node : ℕ → List Arc) (string : List ℕ) → node 0 ≡ [] → tail_in node 0 string ≡ false
unfolding tail_in
none_of_zero node [] e = refl
none_of_zero node (label ∷ []) e = rw e refl
none_of_zero node (label ∷ after ∷ rest) e = rw e (none_of_zero node (after ∷ rest) e)

-- a target with a tail is a node with a smaller number
pub target_of_tail : (node : ℕ → List Arc) (is_node : ℕ → Bool) → node 0 ≡ [] → (n : ℕ) (arc : Arc) (string : List ℕ) → IsSoundArc is_node n arc
    → tail_in node arc.target string ≡ true → (arc.target < n) × IsTrue (is_node arc.target)
target_of_tail node is_node none n arc string sound t =
    elim sound.target [
      | inl at_zero ↦ absurd (false≢true (sym (none_of_zero node string none) ∙ subst (λ (m : ℕ). tail_in node m string ≡ true) at_zero t))
      | inr there ↦ there
    ]

-- a label with which a tail begins is that of an arc of the node
pub arc_of_tail : (node : ℕ → List Arc) (n label : ℕ) (rest : List ℕ) → node 0 ≡ [] → tail_in node n (label ∷ rest) ≡ true
    → (arc : Arc) × (arc_with label (node n) ≡ Some arc)
unfolding tail_in
arc_of_tail node n label [] none t = by (arc_with label (node n)) refl t
  where
    by : (o : Option Arc) → arc_with label (node n) ≡ o → accepts_of o ≡ true → (arc : Arc) × (arc_with label (node n) ≡ Some arc)
    by None e h = absurd (false≢true h)
    by (Some arc) e h = (arc, e)
arc_of_tail node n label (after ∷ rest) none t = by (arc_with label (node n)) refl t
  where
    by : (o : Option Arc) → arc_with label (node n) ≡ o → tail_in node (target_of o) (after ∷ rest) ≡ true → (arc : Arc) × (arc_with label (node n) ≡ Some arc)
    by None e h = absurd (false≢true (sym (none_of_zero node (after ∷ rest) none) ∙ h))
    by (Some arc) e h = (arc, e)

-- a tail of a node has no more labels than the node's number
pub bounded_in : (node : ℕ → List Arc) (is_node : ℕ → Bool) → IsSoundGraph node is_node
    → (n : ℕ) (string : List ℕ) → IsTrue (is_node n) → tail_in node n string ≡ true → length string ≤ n
unfolding tail_in
bounded_in node is_node graph n [] is t = absurd (false≢true t)
bounded_in node is_node graph zero (label ∷ []) is t = absurd (false≢true (sym (none_of_zero node (label ∷ []) graph.none) ∙ t))
bounded_in node is_node graph (suc place) (label ∷ []) is t = omega arith
bounded_in node is_node graph n (label ∷ after ∷ rest) is t =
    let found = arc_of_tail node n label (after ∷ rest) graph.none t in
    let following = rw found.1 at t in
    let there = target_of_tail node is_node graph.none n found.0 (after ∷ rest) (arc_sound node is_node graph n label found.0 is found.1) following in
    let more = bounded_in node is_node graph found.0.target (after ∷ rest) there.1 following in
    omega (arith, there.0, more)

-- the labels of a tail of a node are at most 26
pub labels_in : (node : ℕ → List Arc) (is_node : ℕ → Bool) → IsSoundGraph node is_node
    → (n : ℕ) (string : List ℕ) → IsTrue (is_node n) → tail_in node n string ≡ true → list_all is_label string ≡ true
unfolding tail_in
labels_in node is_node graph n [] is t = absurd (false≢true t)
labels_in node is_node graph n (label ∷ []) is t =
    let found = arc_of_tail node n label [] graph.none t in
    let sound = arc_sound node is_node graph n label found.0 is found.1 in
    let same = arc_label label (node n) found.0 found.1 in
    and_from (ltb label 27) true (lt-ltb label 27 (omega (arith, same, sound.label))) refl
labels_in node is_node graph n (label ∷ after ∷ rest) is t =
    let found = arc_of_tail node n label (after ∷ rest) graph.none t in
    let sound = arc_sound node is_node graph n label found.0 is found.1 in
    let same = arc_label label (node n) found.0 found.1 in
    let following = rw found.1 at t in
    let there = target_of_tail node is_node graph.none n found.0 (after ∷ rest) sound following in
    and_from (ltb label 27) (list_all is_label (after ∷ rest)) (lt-ltb label 27 (omega (arith, same, sound.label)))
    (labels_in node is_node graph found.0.target (after ∷ rest) there.1 following)
