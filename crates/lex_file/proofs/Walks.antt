-- What a step from a node of a file gives: what follows an arc of a sound graph.
use Rattle.std.proofs.Common.{◌≡◌, ℕ, zero, suc, ◌<◌, ◌≤◌, Bool, true, false, cond, Option, eqb, leb, ltb, List, [], ◌∷◌, length, Some, None, inl, inr, refl, sym, ap, ◌∙◌, arith}
use Rattle.std.specs.Prelude.{IsTrue, is_none}
use Rattle.std.proofs.lemmas.Bool.{ltb-true, leb-true, leb-false, eqb-true, eq-eqb, false≢true}
use Rattle.std.specs.List.{Contains}
use Rattle.lex_file.specs.declared.arcs.Arc.{Arc}
use Rattle.lex_file.specs.declared.files.LexFile.{LexFile}
use Rattle.lex_file.specs.declared.files.Node.{Node}
use Rattle.lex_file.specs.Lexicons.{IsAfter}
use Rattle.lex_file.specs.Arcs.{reaches, arc_with, arc_from}
use Rattle.lex_file.specs.Shapes.{fault_of, file_node, is_file_node}
use Rattle.lex_file.specs.Languages.{tail_in, file_tail}
use Rattle.lex_file.specs.laws.Graphs as graphs
use Rattle.lex_file.specs.Graphs.{IsSoundGraph, AreRising}
use Rattle.lex_file.specs.laws.Graphs.{arc_sound, found_passes, none_of_zero, or_cases}
use Rattle.lex_file.specs.laws.Files.{sound}

-- ---- the tails of a node

-- each node that has arcs has a tail
pub some_tail : (node : ℕ → List Arc) (is_node : ℕ → Bool) → IsSoundGraph node is_node → (bound n : ℕ) → n ≤ bound → 0 < n → IsTrue (is_node n)
    → (after : ℕ) × (rest : List ℕ) × (tail_in node n (after ∷ rest) ≡ true)
unfolding tail_in
some_tail node is_node graph zero n le lt is = absurd (omega arith)
some_tail node is_node graph (suc bound) n le lt is = by (node n) refl (graph.some n lt is) (λ target. some_tail node is_node graph bound target)
  where
    first_has : (arc : Arc) (arcs : List Arc) → node n ≡ arc ∷ arcs → arc_with arc.label (node n) ≡ Some arc
    first_has arc arcs e = let same = eq-eqb arc.label arc.label refl in rw e (rw same refl)

    by : (arcs : List Arc) → node n ≡ arcs → 0 < length arcs
        → ((target : ℕ) → target ≤ bound → 0 < target → IsTrue (is_node target) → (after : ℕ) × (rest : List ℕ) × (tail_in node target (after ∷ rest) ≡ true))
        → (after : ℕ) × (rest : List ℕ) × (tail_in node n (after ∷ rest) ≡ true)
    by [] e some more = absurd (omega arith)
    by (arc ∷ arcs) e some more =
        let has = first_has arc arcs e in
        let known = arc_sound node is_node graph n arc.label arc is has in
        elim (or_cases arc.accepts (ltb 0 arc.target) known.alive) [
          | inl accepts ↦ (arc.label, [], rw has accepts)
          | inr leads ↦ elim known.target [
            | inl none ↦ let positive = ltb-true 0 arc.target leads in absurd (omega (arith, none, positive))
            | inr there ↦
                let following = more arc.target (omega (arith, there.0)) (ltb-true 0 arc.target leads) there.1 in
                (arc.label, following.0 ∷ following.1, rw has following.2)
          ]
        ]

-- ---- a step in a file

pub step_none : (bytes : List ℕ) → IsTrue (is_none (fault_of bytes)) → (n label : ℕ) → arc_with label (file_node bytes n) ≡ None
    → (rest : List ℕ) → file_tail bytes n (label ∷ rest) ≡ false
unfolding tail_in
step_none bytes shape n label e [] = rw e refl
step_none bytes shape n label e (after ∷ rest) = rw e (none_of_zero (file_node bytes) (after ∷ rest) (sound bytes shape).graph.none)

pub step_accepts : (bytes : List ℕ) (n label : ℕ) (arc : Arc) → arc_with label (file_node bytes n) ≡ Some arc
    → arc.accepts ≡ file_tail bytes n (label ∷ [])
unfolding tail_in
step_accepts bytes n label arc e = rw e refl

-- the longer tails are those after the arc
longer : (bytes : List ℕ) (n label : ℕ) (arc : Arc) → arc_with label (file_node bytes n) ≡ Some arc
    → (after : ℕ) (rest : List ℕ) → file_tail bytes n (label ∷ after ∷ rest) ≡ file_tail bytes arc.target (after ∷ rest)
unfolding tail_in
longer bytes n label arc e after rest = rw e refl

pub step_ends : (bytes : List ℕ) → IsTrue (is_none (fault_of bytes)) → (n label : ℕ) (arc : Arc) → arc_with label (file_node bytes n) ≡ Some arc
    → arc.target ≡ 0 → (after : ℕ) (rest : List ℕ) → file_tail bytes n (label ∷ after ∷ rest) ≡ false
step_ends bytes shape n label arc e none after rest =
    longer bytes n label arc e after rest
    ∙ ap (λ (m : ℕ). file_tail bytes m (after ∷ rest)) none
    ∙ none_of_zero (file_node bytes) (after ∷ rest) (sound bytes shape).graph.none

-- an arc that does not accept has a target
pub step_lives : (bytes : List ℕ) → IsTrue (is_none (fault_of bytes)) → (n label : ℕ) (arc : Arc) → IsTrue (is_file_node bytes n)
    → arc_with label (file_node bytes n) ≡ Some arc → arc.accepts ≡ false → 0 < arc.target
step_lives bytes shape n label arc is e dead =
    let known = arc_sound (file_node bytes) (is_file_node bytes) (sound bytes shape).graph n label arc is e in
    elim (or_cases arc.accepts (ltb 0 arc.target) known.alive) [
      | inl accepts ↦ absurd (false≢true (sym dead ∙ accepts))
      | inr leads ↦ ltb-true 0 arc.target leads
    ]

pub step_after : (file : LexFile) (node : Node) (label : ℕ) (arc : Arc) → IsTrue (is_file_node file.bytes.now node.first)
    → arc_with label (file_node file.bytes.now node.first) ≡ Some arc → 0 < arc.target
    → IsAfter (λ (x : Node). IsTrue (is_file_node file.bytes.now x.first)) (λ (x : Node) (string : List ℕ). file_tail file.bytes.now x.first string) (λ (x : Node). x.first)
    node label (record { first = arc.target })
step_after file node label arc is e some =
    let graph = (sound file.bytes.now file.shape).graph in
    elim (arc_sound (file_node file.bytes.now) (is_file_node file.bytes.now) graph node.first label arc is e).target [
      | inl none ↦ absurd (omega (arith, none, some))
      | inr there ↦ record {
        node = there.1;
        tails = longer file.bytes.now node.first label arc e;
        some = some_tail (file_node file.bytes.now) (is_file_node file.bytes.now) graph arc.target arc.target (omega arith) some there.1;
        falls = there.0;
      }
    ]

-- ---- the arc with a label, and the first one from a label on

pub arc_label : (label : ℕ) (arcs : List Arc) (arc : Arc) → arc_with label arcs ≡ Some arc → arc.label ≡ label
arc_label = graphs.arc_label

pub arc_itself : (label : ℕ) (arcs : List Arc) (arc : Arc) → arc_with label arcs ≡ Some arc → arc_with arc.label arcs ≡ Some arc
arc_itself label arcs arc e = ap (λ (l : ℕ). arc_with l arcs) (graphs.arc_label label arcs arc e) ∙ e

-- no arc has a label from one on if no arc reaches it
none_reaches : (from label : ℕ) (arcs : List Arc) → arc_from from arcs ≡ None → from ≤ label → arc_with label arcs ≡ None
none_reaches from label [] e le = refl
none_reaches from label (arc ∷ arcs) e le = by (leb from arc.label) (eqb arc.label label) refl refl e (none_reaches from label arcs)
  where
    by : (reaches has : Bool) → leb from arc.label ≡ reaches → eqb arc.label label ≡ has → cond reaches (Some arc) (arc_from from arcs) ≡ None
        → (arc_from from arcs ≡ None → from ≤ label → arc_with label arcs ≡ None) → cond has (Some arc) (arc_with label arcs) ≡ None
    by true has r h none more = absurd cc
    by false true r h none more = let less = leb-false from arc.label r in let same = eqb-true arc.label label h in absurd (omega arith)
    by false false r h none more = more none le

-- the first arc that reaches a label is the one with its own label
pub first_itself : (from : ℕ) (arcs : List Arc) (arc : Arc) → arc_from from arcs ≡ Some arc → arc_with arc.label arcs ≡ Some arc
first_itself from [] arc e = absurd cc
first_itself from (first ∷ arcs) arc e =
    by (leb from first.label) (eqb first.label arc.label) refl refl e (first_itself from arcs arc)
  where
    by : (reaches has : Bool) → leb from first.label ≡ reaches → eqb first.label arc.label ≡ has → cond reaches (Some first) (arc_from from arcs) ≡ Some arc
        → (arc_from from arcs ≡ Some arc → arc_with arc.label arcs ≡ Some arc) → cond has (Some first) (arc_with arc.label arcs) ≡ Some arc
    by true true r h found more = found
    by true false r h found more =
        let same : first ≡ arc = cc in
        let label : first.label ≡ arc.label = ap (λ (a : Arc). a.label) same in
        absurd (false≢true (sym h ∙ eq-eqb first.label arc.label label))
    by false true r h found more =
        let less = leb-false from first.label r in
        let same = eqb-true first.label arc.label h in
        let reached = leb-true from arc.label (found_passes (reaches from) arcs arc found) in
        absurd (omega arith)
    by false false r h found more = more found

-- no arc has a label below those of all
above_none : (label : ℕ) (arcs : List Arc) → ((arc : Arc) → Contains arcs arc → label < arc.label) → arc_with label arcs ≡ None
above_none label [] above = refl
above_none label (arc ∷ arcs) above = by (eqb arc.label label) refl (above_none label arcs (λ after h. above after (graphs.is_other arc after arcs h)))
  where
    by : (has : Bool) → eqb arc.label label ≡ has → arc_with label arcs ≡ None → cond has (Some arc) (arc_with label arcs) ≡ None
    by true h more = let less = above arc (0, omega arith, refl) in let same = eqb-true arc.label label h in absurd (omega arith)
    by false h more = more

-- no arc of a node has a label from one on and below that of the first arc that reaches it
passed_over : (from label : ℕ) (arcs : List Arc) (arc : Arc) → AreRising arcs → arc_from from arcs ≡ Some arc → from ≤ label → label < arc.label
    → arc_with label arcs ≡ None
passed_over from label [] arc rising e le lt = refl
passed_over from label (first ∷ arcs) arc rising e le lt =
    by (leb from first.label) (eqb first.label label) refl refl e (λ found. passed_over from label arcs arc rising.1 found le lt)
  where
    by : (reached has : Bool) → leb from first.label ≡ reached → eqb first.label label ≡ has → cond reached (Some first) (arc_from from arcs) ≡ Some arc
        → (arc_from from arcs ≡ Some arc → arc_with label arcs ≡ None) → cond has (Some first) (arc_with label arcs) ≡ None
    by true true r h found more =
        let same : first ≡ arc = cc in
        let equal : first.label ≡ arc.label = ap (λ (a : Arc). a.label) same in
        let has = eqb-true first.label label h in
        absurd (omega (arith, equal, has, lt))
    by true false r h found more =
        let same : first ≡ arc = cc in
        let equal : first.label ≡ arc.label = ap (λ (a : Arc). a.label) same in
        above_none label arcs (λ after there. let less = rising.0 after there in omega (arith, less, equal, lt))
    by false true r h found more =
        let less = leb-false from first.label r in
        let has = eqb-true first.label label h in
        absurd (omega (arith, less, has, le))
    by false false r h found more = more found

-- ---- a branch in a file

pub branch_none : (bytes : List ℕ) (n from : ℕ) (found : Option Arc) → IsTrue (is_none (fault_of bytes))
    → found ≡ arc_from from (file_node bytes n) → found ≡ None
    → (label : ℕ) → from ≤ label → (rest : List ℕ) → file_tail bytes n (label ∷ rest) ≡ false
branch_none bytes n from found shape is e label le = step_none bytes shape n label (none_reaches from label (file_node bytes n) (sym is ∙ e) le)

pub branch_reached : (from : ℕ) (arcs : List Arc) (arc : Arc) → arc_from from arcs ≡ Some arc → from ≤ arc.label
branch_reached from arcs arc e = leb-true from arc.label (found_passes (reaches from) arcs arc e)

pub branch_passed : (bytes : List ℕ) → IsTrue (is_none (fault_of bytes)) → (n from : ℕ) (arc : Arc) → IsTrue (is_file_node bytes n)
    → arc_from from (file_node bytes n) ≡ Some arc → (label : ℕ) → from ≤ label → label < arc.label
    → (rest : List ℕ) → file_tail bytes n (label ∷ rest) ≡ false
branch_passed bytes shape n from arc is e label le lt =
    step_none bytes shape n label (passed_over from label (file_node bytes n) arc ((sound bytes shape).graph.rising n is) e le lt)
