-- The recursion on a string accepts exactly the strings that arcs spell.
use Rattle.std.proofs.Common.{◌≡◌, ℕ, zero, suc, ◌+◌, ◌-◌, ◌<◌, Bool, true, false, eqb, List, [], ◌∷◌, length, map, Option, Some, None, inl, inr, refl, sym, ap, subst, ◌∙◌, add-one, arith}
use Rattle.std.specs.Prelude.{IsTrue, is_none, ◌↔◌, slice_get}
use Rattle.std.proofs.lemmas.Bool.{false≢true, eqb-true, eq-eqb}
use Rattle.std.specs.List.{Contains}
use Rattle.lex_file.specs.declared.arcs.Arc.{Arc}
use Rattle.lex_file.specs.Arcs.{has_label, arc_with, accepts_of, target_of}
use Rattle.lex_file.specs.Shapes.{fault_of, is_file_node, file_node}
use Rattle.lex_file.specs.Languages.{IsSpelt, tail_in, file_tail}
use Rattle.lex_file.specs.Graphs.{IsSoundGraph, AreRising}
use Rattle.lex_file.specs.laws.Graphs.{first_or_other, none_there, found_there, found_passes, none_of_zero}
use Rattle.lex_file.specs.laws.Files.{sound}
use Rattle.lex_file.proofs.Runs.{not_equal}

-- ---- the labels of a node rise, so an arc of it is the first with its label

only_with_label : (arcs : List Arc) (arc : Arc) → AreRising arcs → Contains arcs arc → arc_with arc.label arcs ≡ Some arc
only_with_label [] arc rising h = absurd (none_there arc h)
only_with_label (first ∷ arcs) arc rising h =
    elim (first_or_other first arc arcs h) [
      | inl same ↦ let equal = eq-eqb first.label arc.label (ap (λ (x : Arc). x.label) same) in rw equal (ap (λ (x : Arc). Some x) same)
      | inr other ↦
          let less = rising.0 arc other in
          let apart : eqb first.label arc.label ≡ false = not_equal first.label arc.label (λ e. absurd (omega (arith, less, e))) in
          rw apart (only_with_label arcs arc rising.1 other)
    ]

-- ---- arcs that spell a string, step by step

-- successive arcs from a node, the last accepting
abbrev Chain : (ℕ → List Arc) → ℕ → List Arc → Type 0
Chain node from [] = ⊥
Chain node from (arc ∷ []) = Contains (node from) arc × (arc.accepts ≡ true)
Chain node from (arc ∷ after ∷ arcs) = Contains (node from) arc × Chain node arc.target (after ∷ arcs)

chain_from_spelt : (node : ℕ → List Arc) (from : ℕ) (arcs : List Arc) → 0 < length arcs
    → ((arc : Arc) → slice_get arcs 0 ≡ Some arc → Contains (node from) arc)
    → ((place : ℕ) (arc after : Arc) → slice_get arcs place ≡ Some arc → slice_get arcs (place + 1) ≡ Some after → Contains (node arc.target) after)
    → ((arc : Arc) → slice_get arcs (length arcs - 1) ≡ Some arc → arc.accepts ≡ true)
    → Chain node from arcs
chain_from_spelt node from [] some first next last = absurd (omega arith)
chain_from_spelt node from (arc ∷ []) some first next last = (first arc refl, last arc refl)
chain_from_spelt node from (arc ∷ after ∷ arcs) some first next last = (
  first arc refl,
  chain_from_spelt node arc.target (after ∷ arcs) (omega arith)
      (λ x e. next 0 arc x refl e)
      (λ place x y e f. let there = rw add-one at f in next (suc place) x y e (rw add-one there))
      (λ x e. last x (ending x e)),
)
  where
    ending : (x : Arc) → slice_get (after ∷ arcs) (length (after ∷ arcs) - 1) ≡ Some x → slice_get (arc ∷ after ∷ arcs) (length (arc ∷ after ∷ arcs) - 1) ≡ Some x
    ending x e = let same : length (arc ∷ after ∷ arcs) - 1 ≡ suc (length (after ∷ arcs) - 1) = omega arith in rw same e

-- successive arcs are those of a string that is spelt
pub record IsChained (node : ℕ → List Arc) (from : ℕ) (arcs : List Arc) : Type 0 where
  pub some : 0 < length arcs
  pub first : (arc : Arc) → slice_get arcs 0 ≡ Some arc → Contains (node from) arc
  pub next : (place : ℕ) (arc after : Arc) → slice_get arcs place ≡ Some arc → slice_get arcs (place + 1) ≡ Some after → Contains (node arc.target) after
  pub last : (arc : Arc) → slice_get arcs (length arcs - 1) ≡ Some arc → arc.accepts ≡ true

chained : (node : ℕ → List Arc) (from : ℕ) (arcs : List Arc) → Chain node from arcs → IsChained node from arcs
chained node from [] h = absurd h
chained node from (arc ∷ []) h = record {
  some = omega arith;
  first = λ x e. let same : arc ≡ x = cc in subst (λ (y : Arc). Contains (node from) y) same h.0;
  next = λ place x y e f. absurd (past place y f);
  last = λ x e. let same : arc ≡ x = cc in subst (λ (y : Arc). y.accepts ≡ true) same h.1;
}
  where
    past : (place : ℕ) (y : Arc) → slice_get (arc ∷ []) (place + 1) ≡ Some y → ⊥
    past place y f = let none = rw add-one at f in cc
chained node from (arc ∷ after ∷ arcs) h = more (chained node arc.target (after ∷ arcs) h.1)
  where
    step : IsChained node arc.target (after ∷ arcs) → (place : ℕ) (x y : Arc) → slice_get (arc ∷ after ∷ arcs) place ≡ Some x
        → slice_get (arc ∷ after ∷ arcs) (suc place) ≡ Some y → Contains (node x.target) y
    step rest zero x y e f = let same : arc ≡ x = cc in subst (λ (z : Arc). Contains (node z.target) y) same (rest.first y f)
    step rest (suc place) x y e f = rest.next place x y e (rw add-one f)

    ending : (x : Arc) → slice_get (arc ∷ after ∷ arcs) (length (arc ∷ after ∷ arcs) - 1) ≡ Some x → slice_get (after ∷ arcs) (length (after ∷ arcs) - 1) ≡ Some x
    ending x e = let same : length (arc ∷ after ∷ arcs) - 1 ≡ suc (length (after ∷ arcs) - 1) = omega arith in rw same at e

    more : IsChained node arc.target (after ∷ arcs) → IsChained node from (arc ∷ after ∷ arcs)
    more rest = record {
      some = omega arith;
      first = λ x e. let same : arc ≡ x = cc in subst (λ (y : Arc). Contains (node from) y) same h.0;
      next = λ place x y e f. step rest place x y e (rw add-one at f);
      last = λ x e. rest.last x (ending x e);
    }

-- ---- chains and the recursion

tail_from_chain : (node : ℕ → List Arc) (is_node : ℕ → Bool) → IsSoundGraph node is_node → (n : ℕ) (arcs : List Arc) → IsTrue (is_node n)
    → Chain node n arcs → tail_in node n (map (λ (arc : Arc). arc.label) arcs) ≡ true
unfolding tail_in
tail_from_chain node is_node graph n [] is h = absurd h
tail_from_chain node is_node graph n (arc ∷ []) is h = rw (only_with_label (node n) arc (graph.rising n is) h.0) h.1
tail_from_chain node is_node graph n (arc ∷ after ∷ arcs) is h =
    let e = only_with_label (node n) arc (graph.rising n is) h.0 in
    elim (graph.arcs n arc is h.0).target [
      | inl none ↦ absurd (no_chain (after ∷ arcs) (subst (λ (m : ℕ). Chain node m (after ∷ arcs)) none h.1))
      | inr there ↦ let rest = tail_from_chain node is_node graph arc.target (after ∷ arcs) there.1 h.1 in rw e rest
    ]
  where
    no_chain : (more : List Arc) → Chain node 0 more → ⊥
    no_chain [] c = c
    no_chain (x ∷ []) c = none_there x (rw (graph.none) at c.0)
    no_chain (x ∷ y ∷ more) c = none_there x (rw (graph.none) at c.0)

-- the arcs that the recursion follows
record Spells (node : ℕ → List Arc) (n : ℕ) (string : List ℕ) : Type 0 where
  arcs : List Arc
  chain : Chain node n arcs
  labels : map (λ (arc : Arc). arc.label) arcs ≡ string

has_it : (node : ℕ → List Arc) (n label : ℕ) (arc : Arc) → arc_with label (node n) ≡ Some arc → Contains (node n) arc × (arc.label ≡ label)
has_it node n label arc e = (found_there (has_label label) (node n) arc e, eqb-true arc.label label (found_passes (has_label label) (node n) arc e))

chain_from_tail : (node : ℕ → List Arc) → node 0 ≡ [] → (n : ℕ) (string : List ℕ) → tail_in node n string ≡ true → Spells node n string
unfolding tail_in
chain_from_tail node empty n [] t = absurd (false≢true t)
chain_from_tail node empty n (label ∷ []) t = by (arc_with label (node n)) refl t
  where
    by : (o : Option Arc) → arc_with label (node n) ≡ o → accepts_of o ≡ true → Spells node n (label ∷ [])
    by None e h = absurd (false≢true h)
    by (Some arc) e h =
        let it = has_it node n label arc e in
        record { arcs = arc ∷ []; chain = (it.0, h); labels = ap (λ (x : ℕ). x ∷ []) it.1 }
chain_from_tail node empty n (label ∷ after ∷ rest) t = by (arc_with label (node n)) refl t (λ target. chain_from_tail node empty target (after ∷ rest))
  where
    joined : (arc : Arc) (arcs : List Arc) → Contains (node n) arc → arc.label ≡ label → Chain node arc.target arcs → map (λ (x : Arc). x.label) arcs ≡ after ∷ rest
        → Spells node n (label ∷ after ∷ rest)
    joined arc [] there named chain labels = absurd chain
    joined arc (next ∷ arcs) there named chain labels =
        record { arcs = arc ∷ next ∷ arcs; chain = (there, chain); labels = cc }

    by : (o : Option Arc) → arc_with label (node n) ≡ o → tail_in node (target_of o) (after ∷ rest) ≡ true
        → ((target : ℕ) → tail_in node target (after ∷ rest) ≡ true → Spells node target (after ∷ rest)) → Spells node n (label ∷ after ∷ rest)
    by None e h f = absurd (false≢true (sym (none_of_zero node (after ∷ rest) empty) ∙ h))
    by (Some arc) e h f =
        let it = has_it node n label arc e in
        let more = f arc.target h in
        joined arc more.arcs it.0 it.1 more.chain more.labels

-- ---- the law

spelt_from_tail : (node : ℕ → List Arc) → node 0 ≡ [] → (n : ℕ) (string : List ℕ) → tail_in node n string ≡ true → IsSpelt node n string
spelt_from_tail node empty n string t =
    let s = chain_from_tail node empty n string t in
    let c = chained node n s.arcs s.chain in
    record { arcs = s.arcs; some = c.some; labels = s.labels; first = c.first; next = c.next; last = c.last }

tail_from_spelt : (node : ℕ → List Arc) (is_node : ℕ → Bool) → IsSoundGraph node is_node → (n : ℕ) (string : List ℕ) → IsTrue (is_node n)
    → IsSpelt node n string → tail_in node n string ≡ true
tail_from_spelt node is_node graph n string is s =
    subst (λ (labels : List ℕ). tail_in node n labels ≡ true) s.labels
    (tail_from_chain node is_node graph n s.arcs is (chain_from_spelt node n s.arcs s.some s.first s.next s.last))

pub spelt : (bytes : List ℕ) → IsTrue (is_none (fault_of bytes)) → (n : ℕ) → IsTrue (is_file_node bytes n) → (string : List ℕ)
    → IsTrue (file_tail bytes n string) ↔ IsSpelt (file_node bytes) n string
spelt bytes shape n is string =
    let graph = (sound bytes shape).graph in (
      spelt_from_tail (file_node bytes) graph.none n string,
      tail_from_spelt (file_node bytes) (is_file_node bytes) graph n string is,
    )
