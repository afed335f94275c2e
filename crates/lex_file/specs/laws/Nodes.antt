-- The nodes of a GAD1 file without a fault are a sound graph: lemmas for the laws of a lexicon that is walked.
use Rattle.std.proofs.Common.{◌≡◌, ℕ, zero, suc, ◌+◌, ◌-◌, ◌<◌, ◌≤◌, Bool, true, false, cond, ◌&&◌, ◌||◌, eqb, ltb, leb, List, [], ◌∷◌, length, get_or, drop, drop-cons, None, inl, inr, ◌⊎◌, refl, sym, subst, ◌∙◌, arith}
use Rattle.std.proofs.Math.ListN.{drop_of_length-le}
use Rattle.std.proofs.lemmas.Bool.{ltb-true, leb-true, eqb-true, false≢true, cases_lt, and_parts}
use Rattle.std.specs.List.{Contains}
use Rattle.first_faults.proofs.CheckLaws.{checked, or_none}
use Rattle.lex_file.specs.declared.arcs.Arc.{Arc}
use Rattle.lex_file.specs.declared.faults.FileFault.TheVariants as why
use Rattle.lex_file.specs.Arcs.{arc_of, is_last}
use Rattle.lex_file.specs.Formats.{greatest_label}
use Rattle.lex_file.specs.Nodes.{run_of, node_at, begins, is_first, is_node, start_at}
use Rattle.lex_file.specs.Shapes.{label_before, leads_back, arc_fault, arcs_fault}
use Rattle.lex_file.specs.Graphs.{IsSoundArc, AreRising, IsSoundGraph}
use Rattle.lex_file.specs.laws.Graphs.{first_or_other, none_there, or_cases}

-- ---- arcs without a fault

-- an arc whose node has its first arc at `start`
pub record IsFineArc (words : List ℕ) (start : ℕ) (arc : Arc) : Type 0 where
  pub label : arc.label ≤ greatest_label
  pub target : leads_back words start arc.target ≡ true
  pub alive : (arc.accepts || ltb 0 arc.target) ≡ true

pub fine_at : (words : List ℕ) (count place : ℕ) → arcs_fault words count ≡ None → place < count → arc_fault words place ≡ None
unfolding arcs_fault
fine_at words zero place e lt = absurd (omega arith)
fine_at words (suc count) place e lt =
    let parts = or_none (arcs_fault words count) (arc_fault words count) e in
    elim (cases_lt place count) [
      | inl before ↦ fine_at words count place parts.0 before
      | inr after ↦ let same : place ≡ count = omega arith in rw same parts.1
    ]

-- what the checks of an arc say
pub arc_facts : (words : List ℕ) (place : ℕ) → arc_fault words place ≡ None
    → IsFineArc words (start_at words place) (arc_of (get_or words place 0))
    × ((begins words place || ltb (label_before words place) (arc_of (get_or words place 0)).label) ≡ true)
unfolding arc_fault
arc_facts words place e =
    let label = checked (leb (arc_of (get_or words place 0)).label greatest_label) why.Label _ e in
    let order = checked (begins words place || ltb (label_before words place) (arc_of (get_or words place 0)).label) why.Order _ label.1 in
    let target = checked (leads_back words (start_at words place) (arc_of (get_or words place 0)).target) why.Target _ order.1 in
    let alive = checked ((arc_of (get_or words place 0)).accepts || ltb 0 (arc_of (get_or words place 0)).target) why.DeadArc _ target.1 in
    (record { label = leb-true (arc_of (get_or words place 0)).label greatest_label label.0; target = target.0; alive = alive.0 }, order.0)

-- ---- the arcs of a node

-- the first arc of what is left of a node, or one after it
pub run_cases : (words : List ℕ) (place : ℕ) (arc : Arc) → place < length words → Contains (run_of (drop place words)) arc
    → (arc_of (get_or words place 0) ≡ arc) ⊎ ((is_last (get_or words place 0) ≡ false) × Contains (run_of (drop (suc place) words)) arc)
unfolding run_of
run_cases words place arc lt h = by (is_last (get_or words place 0)) refl (rw (drop-cons words place 0 lt) at h)
  where
    by : (last : Bool) → is_last (get_or words place 0) ≡ last → Contains (arc_of (get_or words place 0) ∷ cond last [] (run_of (drop (suc place) words))) arc
        → (arc_of (get_or words place 0) ≡ arc) ⊎ ((is_last (get_or words place 0) ≡ false) × Contains (run_of (drop (suc place) words)) arc)
    by true is c = elim (first_or_other (arc_of (get_or words place 0)) arc [] c) [
      | inl same ↦ inl same
      | inr other ↦ absurd (none_there arc other)
    ]
    by false is c = elim (first_or_other (arc_of (get_or words place 0)) arc (run_of (drop (suc place) words)) c) [
      | inl same ↦ inl same
      | inr other ↦ inr (is, other)
    ]

no_arc_past : (words : List ℕ) (place : ℕ) (arc : Arc) → length words ≤ place → Contains (run_of (drop place words)) arc → ⊥
unfolding run_of
no_arc_past words place arc le h = none_there arc (rw (drop_of_length-le words le) at h)

-- a node's arcs, from one of them on, have no fault
run_fine : (words : List ℕ) (remaining place : ℕ) → place + remaining ≡ length words → arcs_fault words (length words) ≡ None
    → (arc : Arc) → Contains (run_of (drop place words)) arc → IsFineArc words (start_at words place) arc
unfolding start_at
run_fine words zero place size fine arc h = absurd (no_arc_past words place arc (omega arith) h)
run_fine words (suc remaining) place size fine arc h =
    elim (run_cases words place arc (omega arith) h) [
      | inl same ↦
          subst (λ (x : Arc). IsFineArc words (start_at words place) x) same
          (arc_facts words place (fine_at words (length words) place fine (omega arith))).0
      | inr other ↦
          let stays : start_at words (suc place) ≡ start_at words place = rw other.0 refl in
          subst (λ (s : ℕ). IsFineArc words s arc) stays (run_fine words remaining (suc place) (omega arith) fine arc other.1)
    ]

-- an arc that is not the first of its node is above the one before it
above_before : (words : List ℕ) (place : ℕ) → arc_fault words (suc place) ≡ None → is_last (get_or words place 0) ≡ false
    → (arc_of (get_or words place 0)).label < (arc_of (get_or words (suc place) 0)).label
above_before words place fine last =
    elim (or_cases (begins words (suc place)) (ltb (label_before words (suc place)) (arc_of (get_or words (suc place) 0)).label) (arc_facts words (suc place) fine).1) [
      | inl first ↦ absurd (false≢true (sym last ∙ first))
      | inr above ↦ ltb-true (arc_of (get_or words place 0)).label (arc_of (get_or words (suc place) 0)).label above
    ]

rises : (words : List ℕ) (remaining place : ℕ) (arc : Arc) → place + remaining ≡ length words → arcs_fault words (length words) ≡ None
    → is_last (get_or words place 0) ≡ false → Contains (run_of (drop (suc place) words)) arc → (arc_of (get_or words place 0)).label < arc.label
rises words zero place arc size fine last h = absurd (no_arc_past words (suc place) arc (omega arith) h)
rises words (suc zero) place arc size fine last h = absurd (no_arc_past words (suc place) arc (omega arith) h)
rises words (suc (suc remaining)) place arc size fine last h =
    let step = above_before words place (fine_at words (length words) (suc place) fine (omega arith)) last in
    elim (run_cases words (suc place) arc (omega arith) h) [
      | inl same ↦ subst (λ (x : Arc). (arc_of (get_or words place 0)).label < x.label) same step
      | inr other ↦ let more = rises words (suc remaining) (suc place) arc (omega arith) fine other.0 other.1 in omega (arith, step, more)
    ]

-- the labels of a node's arcs rise, from one of them on
run_rising : (words : List ℕ) (remaining place : ℕ) → place + remaining ≡ length words → arcs_fault words (length words) ≡ None → AreRising (run_of (drop place words))
unfolding run_of
run_rising words zero place size fine = let past : length words ≤ place = omega arith in rw (drop_of_length-le words past) tt
run_rising words (suc remaining) place size fine =
    rw (drop-cons words place 0 (omega arith))
    (by (is_last (get_or words place 0)) refl (run_rising words remaining (suc place) (omega arith) fine))
  where
    by : (last : Bool) → is_last (get_or words place 0) ≡ last → AreRising (run_of (drop (suc place) words))
        → AreRising (arc_of (get_or words place 0) ∷ cond last [] (run_of (drop (suc place) words)))
    by true is more = ((λ after h. absurd (none_there after h)), tt)
    by false is more = ((λ after h. rises words (suc remaining) place after size fine is h), more)

-- a node has an arc
pub run_filled : (words : List ℕ) (place : ℕ) → place < length words → 0 < length (run_of (drop place words))
unfolding run_of
run_filled words place lt = rw (drop-cons words place 0 lt) (omega arith)

-- the first arc of a node begins it
pub start_of_first : (words : List ℕ) (place : ℕ) → is_first words (suc place) ≡ true → start_at words place ≡ suc place
unfolding start_at
start_of_first words zero is = refl
start_of_first words (suc place) is =
    let last = (and_parts (ltb (suc place) (length words)) (is_last (get_or words place 0)) is).1 in
    rw last (omega arith)

pub leads_where : (words : List ℕ) (n target : ℕ) → leads_back words n target ≡ true → (target ≡ 0) ⊎ ((target < n) × (is_first words target ≡ true))
leads_where words n target e =
    elim (or_cases (eqb target 0) (ltb target n && is_first words target) e) [
      | inl none ↦ inl (eqb-true target 0 none)
      | inr some ↦ let parts = and_parts (ltb target n) (is_first words target) some in inr (ltb-true target n parts.0, parts.1)
    ]

pub node_of_first : (words : List ℕ) (n : ℕ) → is_first words n ≡ true → is_node words n ≡ true
node_of_first words zero is = absurd (false≢true is)
node_of_first words (suc place) is = is

-- the nodes of a body without a fault are a sound graph
pub gad1_graph : (words : List ℕ) → arcs_fault words (length words) ≡ None → IsSoundGraph (node_at words) (is_node words)
gad1_graph words fine = record { none = refl; some = filled; arcs = sound_arc; rising = rising_at }
  where
    filled : (n : ℕ) → 0 < n → is_node words n ≡ true → 0 < length (node_at words n)
    filled zero lt is = absurd (omega arith)
    filled (suc place) lt is = run_filled words place (ltb-true place (length words) (and_parts (ltb place (length words)) (begins words place) is).0)

    sound_arc : (n : ℕ) (arc : Arc) → is_node words n ≡ true → Contains (node_at words n) arc → IsSoundArc (is_node words) n arc
    sound_arc zero arc is h = absurd (none_there arc h)
    sound_arc (suc place) arc is h =
        let inside = ltb-true place (length words) (and_parts (ltb place (length words)) (begins words place) is).0 in
        let fine_arc = run_fine words (length words - place) place (omega arith) fine arc h in
        record {
          label = fine_arc.label;
          target = elim (leads_where words (suc place) arc.target (rw (start_of_first words place is) at fine_arc.target)) [
            | inl none ↦ inl none
            | inr there ↦ inr (there.0, node_of_first words arc.target there.1)
          ];
          alive = fine_arc.alive;
        }

    rising_at : (n : ℕ) → is_node words n ≡ true → AreRising (node_at words n)
    rising_at zero is = tt
    rising_at (suc place) is =
        let inside = ltb-true place (length words) (and_parts (ltb place (length words)) (begins words place) is).0 in
        run_rising words (length words - place) place (omega arith) fine
