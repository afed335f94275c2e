-- A node is written after others.
use Rattle.std.proofs.Common.{◌≡◌, ℕ, zero, suc, ◌+◌, ◌-◌, ◌/◌, ◌%◌, ◌<◌, ◌≤◌, Bool, true, false, cond, ◌||◌, ltb, List, [], ◌∷◌, ◌++◌, map, length, get_or, Option, Some, None, Contains, inl, inr, refl, sym, ap, subst, ◌∙◌, arith, add-one, append-nil}
use Rattle.std.specs.Prelude.{nat_eq}
use Rattle.std.specs.Cmp.Lexicographic.{pointwise}
use Rattle.std.specs.Map.{lookup}
use Rattle.std.proofs.lemmas.Slice.Eq.{bytes_eq-Decides}
use Rattle.std.proofs.Math.Seq.{drop-append_seam}
use Rattle.std.proofs.lemmas.List.{length-append, get_or-append-add}
use Rattle.std.proofs.lemmas.List.Elements.{Contains-push_cases, Contains-append_right, Contains-get_or}
use Rattle.std.proofs.lemmas.Bool.{ltb-true, lt-ltb, eqb-false, eq-eqb, false≢true, and_parts, and_from}
use Rattle.indexmap.specs.IndexMap.{insert_entry}
use Rattle.smallvec.specs.SmallVec.{SmallVec}
use Rattle.lex_file.specs.declared.arcs.Arc.{Arc}
use Rattle.lex_file.specs.Arcs.{arc_of, is_last}
use Rattle.lex_file.specs.FileWords.{body_of}
use Rattle.lex_file.specs.Nodes.{run_of, node_at, begins, is_first, start_at}
use Rattle.lex_file.specs.Shapes.{label_before, leads_back, arc_fault, arcs_fault}
use Rattle.lex_file.specs.laws.Nodes.{IsFineArc}
use Rattle.lex_file.specs.Formats.{most_arcs}
use Rattle.lex_build.specs.Bodies.{IsBody, is_target, IsArcList, run_with, IsNodeWith, HasAppended, IsKept, IsPlaced, number_in}
use Rattle.lex_build.proofs.Growth.{begins_grown, first_grown, leads_to_none, leads_from, fine_from, faults_grown, node_grown, target_cases, or_right}

-- ---- the bit of a last arc

marked_arc : (word : ℕ) → is_last word ≡ false → arc_of (word + 64) ≡ arc_of word
marked_arc word unmarked =
    let other = eqb-false (word / 64 % 2) 1 unmarked in
    let label : (word + 64) % 32 ≡ word % 32 = omega arith in
    let accepts : (word + 64) / 32 % 2 ≡ word / 32 % 2 = omega arith in
    let target : (word + 64) / 128 ≡ word / 128 = omega arith in
    rw (label, accepts, target) refl

marked_last : (word : ℕ) → is_last word ≡ false → is_last (word + 64) ≡ true
marked_last word unmarked =
    let other = eqb-false (word / 64 % 2) 1 unmarked in
    eq-eqb ((word + 64) / 64 % 2) 1 (omega arith)

pub run_length : (arcs : List ℕ) → length (run_with arcs) ≡ length arcs
unfolding run_with
run_length [] = refl
run_length (word ∷ []) = refl
run_length (word ∷ next ∷ arcs) = ap suc (run_length (next ∷ arcs))

run_arcs : (arcs : List ℕ) → ((place : ℕ) → place < length arcs → is_last (get_or arcs place 0) ≡ false) → run_of (run_with arcs) ≡ map arc_of arcs
unfolding run_with run_of
run_arcs [] unmarked = refl
run_arcs (word ∷ []) unmarked = rw (marked_arc word (unmarked 0 (omega arith)), marked_last word (unmarked 0 (omega arith))) refl
run_arcs (word ∷ next ∷ arcs) unmarked =
    rw (unmarked 0 (omega arith)) (ap (λ (xs : List Arc). arc_of word ∷ xs) (run_arcs (next ∷ arcs) (λ place lt. unmarked (suc place) (omega arith))))

run_arc : (arcs : List ℕ) (place : ℕ) → ((place : ℕ) → place < length arcs → is_last (get_or arcs place 0) ≡ false) → place < length arcs
    → arc_of (get_or (run_with arcs) place 0) ≡ arc_of (get_or arcs place 0)
unfolding run_with
run_arc [] place unmarked lt = absurd (omega arith)
run_arc (word ∷ []) zero unmarked lt = marked_arc word (unmarked 0 (omega arith))
run_arc (word ∷ []) (suc place) unmarked lt = absurd (omega arith)
run_arc (word ∷ next ∷ arcs) zero unmarked lt = refl
run_arc (word ∷ next ∷ arcs) (suc place) unmarked lt = run_arc (next ∷ arcs) place (λ place lt. unmarked (suc place) (omega arith)) (omega arith)

pub run_inner : (arcs : List ℕ) (place : ℕ) → ((place : ℕ) → place < length arcs → is_last (get_or arcs place 0) ≡ false) → place + 1 < length arcs
    → is_last (get_or (run_with arcs) place 0) ≡ false
unfolding run_with
run_inner [] place unmarked lt = absurd (omega arith)
run_inner (word ∷ []) place unmarked lt = absurd (omega arith)
run_inner (word ∷ next ∷ arcs) zero unmarked lt = unmarked 0 (omega arith)
run_inner (word ∷ next ∷ arcs) (suc place) unmarked lt = run_inner (next ∷ arcs) place (λ place lt. unmarked (suc place) (omega arith)) (omega arith)

run_last : (arcs : List ℕ) (place : ℕ) → ((place : ℕ) → place < length arcs → is_last (get_or arcs place 0) ≡ false) → place + 1 ≡ length arcs
    → is_last (get_or (run_with arcs) place 0) ≡ true
unfolding run_with
run_last [] place unmarked e = absurd (omega arith)
run_last (word ∷ []) zero unmarked e = marked_last word (unmarked 0 (omega arith))
run_last (word ∷ []) (suc place) unmarked e = absurd (omega arith)
run_last (word ∷ next ∷ arcs) zero unmarked e = absurd (omega arith)
run_last (word ∷ next ∷ arcs) (suc place) unmarked e = run_last (next ∷ arcs) place (λ place lt. unmarked (suc place) (omega arith)) (omega arith)

-- ---- the faults of the new words

start_closed : (words : List ℕ) (place : ℕ) → begins words place ≡ true → start_at words place ≡ place + 1
unfolding start_at
start_closed words zero is = refl
start_closed words (suc place) is = rw is (omega arith)

pub first_inside : (words : List ℕ) (n : ℕ) → is_first words n ≡ true → n ≤ length words
first_inside words zero is = absurd (false≢true is)
first_inside words (suc place) is = let lt = ltb-true place (length words) (and_parts (ltb place (length words)) (begins words place) is).0 in omega arith

none_more : (n : ℕ) → n + 0 ≡ n
none_more n = omega arith

one_more : (n k : ℕ) → n + suc k ≡ suc (n + k)
one_more n k = omega arith

or_left : (a b : Bool) → a ≡ true → (a || b) ≡ true
or_left true b e = refl
or_left false b e = absurd (false≢true e)

module _ (words arcs : List ℕ) (body : IsBody words) (list : IsArcList words arcs) where
  unmarked : (place : ℕ) → place < length arcs → is_last (get_or arcs place 0) ≡ false
  unmarked place lt = (list.each place lt).unmarked

  word_at : (place : ℕ) → get_or (words ++ run_with arcs) (length words + place) 0 ≡ get_or (run_with arcs) place 0
  word_at place = get_or-append-add words (run_with arcs) place 0

  arc_at : (place : ℕ) → place < length arcs → arc_of (get_or (words ++ run_with arcs) (length words + place) 0) ≡ arc_of (get_or arcs place 0)
  arc_at place lt = ap arc_of (word_at place) ∙ run_arc arcs place unmarked lt

  begin_new : begins (words ++ run_with arcs) (length words) ≡ true
  begin_new = begins_grown words (run_with arcs) (length words) (omega arith) ∙ body.closed

  start_new : (place : ℕ) → place < length arcs → start_at (words ++ run_with arcs) (length words + place) ≡ length words + 1
  unfolding start_at
  start_new zero lt = rw (none_more (length words)) (start_closed (words ++ run_with arcs) (length words) begin_new)
  start_new (suc place) lt =
      let at = one_more (length words) place in
      let same : is_last (get_or (words ++ run_with arcs) (length words + place) 0) ≡ false = ap is_last (word_at place) ∙ run_inner arcs place unmarked (omega arith) in
      rw (at, same) (start_new place (omega arith))

  leads_new : (target : ℕ) → is_target words target ≡ true → leads_back (words ++ run_with arcs) (length words + 1) target ≡ true
  leads_new target is =
      elim (target_cases words target is) [
        | inl none ↦ leads_to_none (words ++ run_with arcs) (length words + 1) target none
        | inr first ↦
            let inside = first_inside words target first in
            leads_from (words ++ run_with arcs) (length words + 1) target (omega arith) (first_grown words (run_with arcs) target first)
      ]

  order_new : (place : ℕ) → place < length arcs
      → (begins (words ++ run_with arcs) (length words + place) || ltb (label_before (words ++ run_with arcs) (length words + place)) (arc_of (get_or arcs place 0)).label) ≡ true
  order_new zero lt = rw (none_more (length words)) (or_left _ _ begin_new)
  order_new (suc place) lt =
      let rising = list.rising place (omega arith) in
      let at = one_more (length words) place in
      let before : (arc_of (get_or (words ++ run_with arcs) (length words + place) 0)).label ≡ (arc_of (get_or arcs place 0)).label =
      ap (λ (arc : Arc). arc.label) (arc_at place (omega arith))
      in
      let below : (arc_of (get_or (words ++ run_with arcs) (length words + place) 0)).label < (arc_of (get_or arcs (suc place) 0)).label =
      rw before (subst (λ (n : ℕ). (arc_of (get_or arcs place 0)).label < (arc_of (get_or arcs n 0)).label) (add-one place) rising)
      in
      rw at
      (or_right (begins (words ++ run_with arcs) (suc (length words + place))) (ltb (arc_of (get_or (words ++ run_with arcs) (length words + place) 0)).label (arc_of (get_or arcs (suc place) 0)).label)
      (lt-ltb (arc_of (get_or (words ++ run_with arcs) (length words + place) 0)).label (arc_of (get_or arcs (suc place) 0)).label below))

  fault_new : (place : ℕ) → place < length arcs → arc_fault (words ++ run_with arcs) (length words + place) ≡ None
  fault_new place lt =
      let known = list.each place lt in
      let start = start_new place lt in
      let same = arc_at place lt in
      let fine : IsFineArc (words ++ run_with arcs) (length words + 1) (arc_of (get_or arcs place 0)) =
      record { label = known.label; target = leads_new (arc_of (get_or arcs place 0)).target known.target; alive = known.alive }
      in
      fine_from (words ++ run_with arcs) (length words + place)
      (subst (λ (n : ℕ). IsFineArc (words ++ run_with arcs) n (arc_of (get_or (words ++ run_with arcs) (length words + place) 0))) (sym start)
      (subst (λ (arc : Arc). IsFineArc (words ++ run_with arcs) (length words + 1) arc) (sym same) fine))
      (subst (λ (arc : Arc). (begins (words ++ run_with arcs) (length words + place) || ltb (label_before (words ++ run_with arcs) (length words + place)) arc.label) ≡ true) (sym same) (order_new place lt))

  faults_new : (count : ℕ) → count ≤ length arcs → arcs_fault (words ++ run_with arcs) (length words + count) ≡ None
  unfolding arcs_fault
  faults_new zero le = rw (none_more (length words)) (faults_grown words (run_with arcs) (length words) (omega arith) body.fine)
  faults_new (suc count) le =
      let before = faults_new count (omega arith) in
      let here = fault_new count (omega arith) in
      rw (one_more (length words) count, before, here) refl

  size_new : length (words ++ run_with arcs) ≡ length words + length arcs
  size_new = length-append words (run_with arcs) ∙ ap (λ (n : ℕ). length words + n) (run_length arcs)

  closed_new : 0 < length arcs → begins (words ++ run_with arcs) (length words + length arcs) ≡ true
  closed_new some = by (length arcs - 1) (omega arith)
    where
      by : (place : ℕ) → place + 1 ≡ length arcs → begins (words ++ run_with arcs) (length words + length arcs) ≡ true
      by place e =
          let at : length words + length arcs ≡ suc (length words + place) = omega arith in
          rw at (ap is_last (word_at place) ∙ run_last arcs place unmarked e)

  pub body_new : 0 < length arcs → length words + length arcs ≤ most_arcs → IsBody (words ++ run_with arcs)
  body_new some few = record {
    fine = rw size_new (faults_new (length arcs) (omega arith));
    closed = rw size_new (closed_new some);
    few = rw size_new few;
  }

  pub node_new : 0 < length arcs → IsNodeWith (words ++ run_with arcs) arcs (length words + 1)
  node_new some =
      let size = size_new in
      let place : length words + 1 ≡ suc (length words) = omega arith in
      let first : is_first (words ++ run_with arcs) (suc (length words)) ≡ true =
      and_from (ltb (length words) (length (words ++ run_with arcs))) (begins (words ++ run_with arcs) (length words)) (lt-ltb (length words) (length (words ++ run_with arcs)) (omega arith)) begin_new
      in
      let node : node_at (words ++ run_with arcs) (suc (length words)) ≡ map arc_of arcs =
      ap run_of (drop-append_seam words (run_with arcs)) ∙ run_arcs arcs unmarked
      in
      record { first = subst (λ (n : ℕ). is_first (words ++ run_with arcs) n ≡ true) (sym place) first; node = subst (λ (n : ℕ). node_at (words ++ run_with arcs) n ≡ map arc_of arcs) (sym place) node }

-- ---- kept nodes

-- a node with these arcs stays one
pub kept_node : (words more arcs : List ℕ) (n : ℕ) → IsBody words → IsNodeWith words arcs n → IsNodeWith (words ++ more) arcs n
kept_node words more arcs n body is = record {
  first = first_grown words more n is.first;
  node = node_grown words more n body.closed is.first ∙ is.node;
}

-- the key that was found has the same arcs
record IsFound (nodes : List (SmallVec ℕ × ℕ)) (arcs : List ℕ) (n : ℕ) : Type 0 where
  pub key : SmallVec ℕ
  pub there : Contains nodes (key, n)
  pub same : arcs ≡ key.items

found : (nodes : List (SmallVec ℕ × ℕ)) (arcs : List ℕ) (n : ℕ) → lookup (λ (k : SmallVec ℕ). pointwise nat_eq arcs k.items) nodes ≡ Some n
    → IsFound nodes arcs n
found [] arcs n e = absurd (cc)
found (entry ∷ nodes) arcs n e = by (pointwise nat_eq arcs entry.0.items) refl e (found nodes arcs n)
  where
    by : (b : Bool) → pointwise nat_eq arcs entry.0.items ≡ b
        → cond b (Some entry.1) (lookup (λ (k : SmallVec ℕ). pointwise nat_eq arcs k.items) nodes) ≡ Some n
        → (lookup (λ (k : SmallVec ℕ). pointwise nat_eq arcs k.items) nodes ≡ Some n → IsFound nodes arcs n)
        → IsFound (entry ∷ nodes) arcs n
    by true same h rest =
        let value : entry.1 ≡ n = cc in
        record {
          key = entry.0;
          there = subst (λ (m : ℕ). Contains (entry ∷ nodes) (entry.0, m)) value (Contains-get_or (entry ∷ nodes) 0 entry (omega arith));
          same = (bytes_eq-Decides arcs entry.0.items).0 same;
        }
    by false other h rest =
        let there = rest h in
        record { key = there.key; there = Contains-append_right (entry ∷ []) nodes (there.key, n) there.there; same = there.same }

-- a node that was written before is the node
pub placed_before : (bytes : List ℕ) (nodes : List (SmallVec ℕ × ℕ)) (arcs : List ℕ) (n : ℕ) (answer : Option ℕ) → IsKept bytes nodes → answer ≡ number_in nodes arcs
    → answer ≡ Some n → IsPlaced (body_of bytes) (body_of bytes) arcs n
unfolding number_in
placed_before bytes nodes arcs n answer kept e here =
    let at = found nodes arcs n (sym e ∙ here) in
    record {
      grown = record { more = []; is = sym (append-nil (body_of bytes)) };
      node = subst (λ (xs : List ℕ). IsNodeWith (body_of bytes) xs n) (sym at.same) (kept.named at.key n at.there);
      size = omega arith;
    }

pub placed_new : (old new : List ℕ) (nodes : List (SmallVec ℕ × ℕ)) (arcs words : List ℕ) (n : ℕ) → IsKept old nodes → IsArcList (body_of old) arcs → 0 < length arcs
    → words ≡ arcs → HasAppended old new (run_with words) → n ≡ length (body_of old) + 1 → IsPlaced (body_of old) (body_of new) arcs n
placed_new old new nodes arcs words n kept list some same written number =
    let appended = subst (λ (xs : List ℕ). HasAppended old new (run_with xs)) same written in
    let size = size_new (body_of old) arcs kept.body list in
    let here = node_new (body_of old) arcs kept.body list some in
    record {
      grown = record { more = run_with arcs; is = appended.body };
      node = rw (appended.body, number) here;
      size = rw appended.body (omega arith);
    }

inserted : (nodes : List (SmallVec ℕ × ℕ)) (key : SmallVec ℕ) (n : ℕ) → lookup (λ (k : SmallVec ℕ). pointwise nat_eq key.items k.items) nodes ≡ None
    → insert_entry (λ (v w : SmallVec ℕ). pointwise nat_eq v.items w.items) nodes key n ≡ nodes ++ (key, n) ∷ []
inserted [] key n e = refl
inserted (entry ∷ nodes) key n e = by (pointwise nat_eq key.items entry.0.items) e (inserted nodes key n)
  where
    by : (b : Bool) → cond b (Some entry.1) (lookup (λ (k : SmallVec ℕ). pointwise nat_eq key.items k.items) nodes) ≡ None
        → (lookup (λ (k : SmallVec ℕ). pointwise nat_eq key.items k.items) nodes ≡ None → insert_entry (λ (v w : SmallVec ℕ). pointwise nat_eq v.items w.items) nodes key n ≡ nodes ++ (key, n) ∷ [])
        → cond b ((entry.0, n) ∷ nodes) (entry ∷ insert_entry (λ (v w : SmallVec ℕ). pointwise nat_eq v.items w.items) nodes key n) ≡ entry ∷ (nodes ++ (key, n) ∷ [])
    by true h rest = absurd (cc)
    by false h rest = ap (λ (xs : List (SmallVec ℕ × ℕ)). entry ∷ xs) (rest h)

pub kept_new : (old new : List ℕ) (nodes after : List (SmallVec ℕ × ℕ)) (key : SmallVec ℕ) (words : List ℕ) (n : ℕ) → IsKept old nodes → IsArcList (body_of old) key.items → 0 < length key.items
    → length (body_of old) + length key.items ≤ most_arcs → words ≡ key.items → HasAppended old new (run_with words) → n ≡ length (body_of old) + 1
    → number_in nodes key.items ≡ None
    → after ≡ insert_entry (λ (v w : SmallVec ℕ). pointwise nat_eq v.items w.items) nodes key n → IsKept new after
unfolding number_in
kept_new old new nodes after key words n kept list some few same appended number absent e = record {
  whole = appended.whole;
  body = rw (appended.body, same) (body_new (body_of old) key.items kept.body list some few);
  named = λ arcs m there. named arcs m (subst (λ (xs : List (SmallVec ℕ × ℕ)). Contains xs (arcs, m)) (e ∙ inserted nodes key n absent) there);
}
  where
    named : (arcs : SmallVec ℕ) (m : ℕ) → Contains (nodes ++ (key, n) ∷ []) (arcs, m) → IsNodeWith (body_of new) arcs.items m
    named arcs m there =
        elim (Contains-push_cases nodes (key, n) (arcs, m) there) [
          | inl before ↦ rw (appended.body, same) (kept_node (body_of old) (run_with key.items) arcs.items m kept.body (kept.named arcs m before))
          | inr here ↦
              let one : key ≡ arcs = ap (λ (p : SmallVec ℕ × ℕ). p.0) here in
              let two : n ≡ m = ap (λ (p : SmallVec ℕ × ℕ). p.1) here in
              subst (λ (k : SmallVec ℕ). IsNodeWith (body_of new) k.items m) one
              (subst (λ (i : ℕ). IsNodeWith (body_of new) key.items i) two (placed_new old new nodes key.items words n kept list some same appended number).node)
        ]
