-- What is written stays so as more is written after it.
use Rattle.std.proofs.Common.{◌≡◌, ℕ, zero, suc, ◌<◌, ◌≤◌, Bool, true, false, cond, ◌&&◌, ◌||◌, eqb, ltb, leb, List, [], ◌∷◌, ◌++◌, length, get_or, drop, Option, Some, None, inl, inr, ◌⊎◌, refl, ap, ◌∙◌, arith}
use Rattle.std.proofs.Math.ListN.{get_or-append}
use Rattle.std.proofs.lemmas.List.{length-append}
use Rattle.std.proofs.lemmas.Bool.{ltb-true, lt-ltb, le-leb, false≢true, and_parts, and_from}
use Rattle.lex_file.specs.declared.arcs.Arc.{Arc}
use Rattle.lex_file.specs.Arcs.{arc_of, is_last, arc_with, accepts_of, target_of}
use Rattle.lex_file.specs.Nodes.{run_of, node_at, begins, is_first, is_node, start_at}
use Rattle.lex_file.specs.Shapes.{label_before, leads_back, arc_fault, arcs_fault}
use Rattle.lex_file.specs.Languages.{tail_in}
use Rattle.lex_file.specs.laws.Graphs.{arc_sound}
use Rattle.lex_file.specs.laws.Nodes.{IsFineArc, arc_facts, fine_at, leads_where, gad1_graph}
use Rattle.lex_build.specs.Bodies.{is_target}

-- ---- places before the growth

pub begins_grown : (words more : List ℕ) (place : ℕ) → place ≤ length words → begins (words ++ more) place ≡ begins words place
begins_grown words more zero le = refl
begins_grown words more (suc place) le = ap is_last (get_or-append words more 0 place (omega arith))

pub start_grown : (words more : List ℕ) (place : ℕ) → place ≤ length words → start_at (words ++ more) place ≡ start_at words place
unfolding start_at
start_grown words more zero le = refl
start_grown words more (suc place) le = rw (get_or-append words more 0 place (omega arith), start_grown words more place (omega arith)) refl

pub first_grown : (words more : List ℕ) (n : ℕ) → is_first words n ≡ true → is_first (words ++ more) n ≡ true
first_grown words more zero is = absurd (false≢true is)
first_grown words more (suc place) is =
    let parts = and_parts (ltb place (length words)) (begins words place) is in
    let inside = ltb-true place (length words) parts.0 in
    let size = length-append words more in
    and_from (ltb place (length (words ++ more))) (begins (words ++ more) place) (lt-ltb place (length (words ++ more)) (omega arith))
    (begins_grown words more place (omega arith) ∙ parts.1)

pub leads_to_none : (words : List ℕ) (start target : ℕ) → target ≡ 0 → leads_back words start target ≡ true
leads_to_none words start target none = rw none refl

pub or_right : (a b : Bool) → b ≡ true → (a || b) ≡ true
or_right true b e = refl
or_right false b e = e

pub leads_from : (words : List ℕ) (start target : ℕ) → target < start → is_first words target ≡ true → leads_back words start target ≡ true
leads_from words start target lt first = or_right (eqb target 0) (ltb target start && is_first words target) (and_from (ltb target start) (is_first words target) (lt-ltb target start lt) first)

leads_grown : (words more : List ℕ) (start target : ℕ) → leads_back words start target ≡ true → leads_back (words ++ more) start target ≡ true
leads_grown words more start target e =
    elim (leads_where words start target e) [
      | inl none ↦ leads_to_none (words ++ more) start target none
      | inr some ↦ leads_from (words ++ more) start target some.0 (first_grown words more target some.1)
    ]

-- ---- faults

-- what the checks of an arc require
pub fine_from : (words : List ℕ) (place : ℕ) → IsFineArc words (start_at words place) (arc_of (get_or words place 0))
    → (begins words place || ltb (label_before words place) (arc_of (get_or words place 0)).label) ≡ true → arc_fault words place ≡ None
unfolding arc_fault
fine_from words place fine order =
    let label : leb (arc_of (get_or words place 0)).label 26 ≡ true = le-leb (arc_of (get_or words place 0)).label 26 fine.label in
    let target = fine.target in
    let alive = fine.alive in
    rw (label, order, target, alive) refl

before_grown : (words more : List ℕ) (place : ℕ) → place < length words → label_before (words ++ more) place ≡ label_before words place
before_grown words more zero lt = refl
before_grown words more (suc place) lt = ap (λ (word : ℕ). (arc_of word).label) (get_or-append words more 0 place (omega arith))

fault_grown : (words more : List ℕ) (place : ℕ) → place < length words → arc_fault words place ≡ None → arc_fault (words ++ more) place ≡ None
fault_grown words more place lt e =
    let facts = arc_facts words place e in
    let word = get_or-append words more 0 place lt in
    let begin = begins_grown words more place (omega arith) in
    let start = start_grown words more place (omega arith) in
    let before = before_grown words more place lt in
    fine_from (words ++ more) place
    (rw (word, start) (record { label = facts.0.label; target = leads_grown words more (start_at words place) (arc_of (get_or words place 0)).target facts.0.target; alive = facts.0.alive }))
    (rw (word, begin, before) facts.1)

pub faults_grown : (words more : List ℕ) (count : ℕ) → count ≤ length words → arcs_fault words (length words) ≡ None → arcs_fault (words ++ more) count ≡ None
unfolding arcs_fault
faults_grown words more zero le fine = refl
faults_grown words more (suc count) le fine =
    let here = fault_grown words more count (omega arith) (fine_at words (length words) count fine (omega arith)) in
    let before = faults_grown words more count (omega arith) fine in
    rw (before, here) refl

-- ---- nodes

run_grown : (words more : List ℕ) (place : ℕ) → begins words (length words) ≡ true → place < length words → run_of (drop place (words ++ more)) ≡ run_of (drop place words)
unfolding run_of
run_grown [] more place closed lt = absurd (omega arith)
run_grown (word ∷ []) more zero closed lt = rw closed refl
run_grown (word ∷ next ∷ words) more zero closed lt =
    ap (λ (arcs : List Arc). arc_of word ∷ cond (is_last word) [] arcs) (run_grown (next ∷ words) more zero closed (omega arith))
run_grown (word ∷ []) more (suc place) closed lt = absurd (omega arith)
run_grown (word ∷ next ∷ words) more (suc place) closed lt = run_grown (next ∷ words) more place closed (omega arith)

pub node_grown : (words more : List ℕ) (n : ℕ) → begins words (length words) ≡ true → is_first words n ≡ true → node_at (words ++ more) n ≡ node_at words n
node_grown words more zero closed is = absurd (false≢true is)
node_grown words more (suc place) closed is =
    run_grown words more place closed (ltb-true place (length words) (and_parts (ltb place (length words)) (begins words place) is).0)

pub target_cases : (words : List ℕ) (n : ℕ) → is_target words n ≡ true → (n ≡ 0) ⊎ (is_first words n ≡ true)
target_cases words zero is = inl refl
target_cases words (suc place) is = inr is

pub target_of_first : (words : List ℕ) (n : ℕ) → is_first words n ≡ true → is_target words n ≡ true
target_of_first words zero is = refl
target_of_first words (suc place) is = is

pub target_grown : (words more : List ℕ) (n : ℕ) → is_target words n ≡ true → is_target (words ++ more) n ≡ true
target_grown words more zero is = refl
target_grown words more (suc place) is = first_grown words more (suc place) is

target_node : (words more : List ℕ) (n : ℕ) → begins words (length words) ≡ true → is_target words n ≡ true → node_at (words ++ more) n ≡ node_at words n
target_node words more zero closed is = refl
target_node words more (suc place) closed is = node_grown words more (suc place) closed is

target_of_node : (words : List ℕ) (n : ℕ) → is_node words n ≡ true → is_target words n ≡ true
target_of_node words zero is = refl
target_of_node words (suc place) is = is

-- the target of an arc is a node
following : (words : List ℕ) (n label : ℕ) → arcs_fault words (length words) ≡ None → is_target words n ≡ true
    → is_target words (target_of (arc_with label (node_at words n))) ≡ true
following words zero label fine is = refl
following words (suc place) label fine is = by (arc_with label (node_at words (suc place))) refl
  where
    by : (o : Option Arc) → arc_with label (node_at words (suc place)) ≡ o → is_target words (target_of o) ≡ true
    by None e = refl
    by (Some arc) e =
        elim (arc_sound (node_at words) (is_node words) (gad1_graph words fine) (suc place) label arc is e).target [
          | inl none ↦ rw none refl
          | inr some ↦ target_of_node words arc.target some.1
        ]

pub tails_grown : (words more : List ℕ) (n : ℕ) (string : List ℕ) → arcs_fault words (length words) ≡ None → begins words (length words) ≡ true
    → is_target words n ≡ true → tail_in (node_at (words ++ more)) n string ≡ tail_in (node_at words) n string
unfolding tail_in
tails_grown words more n [] fine closed is = refl
tails_grown words more n (label ∷ []) fine closed is = ap (λ (arcs : List Arc). accepts_of (arc_with label arcs)) (target_node words more n closed is)
tails_grown words more n (label ∷ after ∷ rest) fine closed is =
    ap (λ (arcs : List Arc). tail_in (node_at (words ++ more)) (target_of (arc_with label arcs)) (after ∷ rest)) (target_node words more n closed is)
    ∙ tails_grown words more (target_of (arc_with label (node_at words n))) (after ∷ rest) fine closed (following words n label fine is)
