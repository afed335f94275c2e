-- The nodes of a GAD2 file stay as they are as words are appended.
use Rattle.std.proofs.Common.{◌≡◌, ℕ, zero, suc, ◌+◌, ◌<◌, ◌≤◌, Bool, true, false, ◌&&◌, ◌||◌, eqb, ltb, List, ◌++◌, length, get_or, Option, Some, None, inl, inr, ◌⊎◌, refl, sym, subst, ◌∙◌, arith}
use Rattle.std.proofs.Math.ListN.{get_or-append}
use Rattle.std.proofs.lemmas.List.{length-append}
use Rattle.std.proofs.lemmas.Bool.{ltb-true, lt-ltb, le-ltb, eqb-true, cases_lt, and_parts, and_from}
use Rattle.std.specs.Option.{option_or}
use Rattle.lex_file.specs.declared.arcs.Arc.{Arc}
use Rattle.lex_file.specs.declared.faults.FileFault.{FileFault}
use Rattle.lex_file.specs.laws.Graphs.{or_cases}
use Rattle.lex_file.specs.Masks.{has_bit, is_marked, labels_below, node_size, mask_arc, arcs_among, mask_node, is_mask_node}
use Rattle.lex_file.specs.MaskShapes.{points_back, label_fault, node_fault, nodes_fault}
use Rattle.lex_file.specs.laws.Masks.{IsFineNode, among_has, among_lacks, among_none, label_facts, label_fine, node_facts, node_fine}
use Rattle.lex_file.proofs.MaskRuns.{place_of_label}
use Rattle.lex_build.specs.Stores.{IsMaskBody}
use Rattle.lex_build.proofs.MaskNodes.{points_to_none, points_from, label_from, labels_from, node_from}

pub points_cases : (words : List ℕ) (n target : ℕ) → points_back words n target ≡ true → (target ≡ 0) ⊎ ((target < n) × (is_mask_node words target ≡ true))
points_cases words n target e =
    elim (or_cases (eqb target 0) (ltb target n && is_mask_node words target) e) [
      | inl none ↦ inl (eqb-true target 0 none)
      | inr some ↦ let parts = and_parts (ltb target n) (is_mask_node words target) some in inr (ltb-true target n parts.0, parts.1)
    ]

neither : (first second : Option FileFault) → option_or first second ≡ None → (first ≡ None) × (second ≡ None)
neither None second e = (refl, e)
neither (Some fault) second e = absurd cc

module _ (words more : List ℕ) where
  pub at_grown : (place : ℕ) → place < length words → get_or (words ++ more) place 0 ≡ get_or words place 0
  at_grown place lt = get_or-append words more 0 place lt

  pub size_grown : length (words ++ more) ≡ length words + length more
  size_grown = length-append words more

  -- a number other than 0 that names a node still does
  pub names_grown : (n : ℕ) → 0 < n → is_mask_node words n ≡ true → is_mask_node (words ++ more) n ≡ true
  names_grown zero lt is = absurd (omega arith)
  names_grown (suc place) lt is =
      let parts = and_parts (ltb place (length words)) (is_marked (get_or words place 0)) is in
      let inside = ltb-true place (length words) parts.0 in
      let size = size_grown in
      let same = at_grown place inside in
      and_from (ltb place (length (words ++ more))) (is_marked (get_or (words ++ more) place 0)) (lt-ltb place (length (words ++ more)) (omega arith))
      (rw same parts.1)

  points_grown : (n target : ℕ) → points_back words n target ≡ true → points_back (words ++ more) n target ≡ true
  points_grown n target e = elim (points_cases words n target e) [
    | inl none ↦ points_to_none (words ++ more) n target none
    | inr there ↦ by target there.0 there.1
  ]
    where
      by : (t : ℕ) → t < n → is_mask_node words t ≡ true → points_back (words ++ more) n t ≡ true
      by zero lt is = points_to_none (words ++ more) n 0 refl
      by (suc place) lt is = points_from (words ++ more) n (suc place) lt (names_grown (suc place) (omega arith) is)

  -- ---- a node without a fault

  arc_grown : (place label : ℕ) → IsFineNode words place → label < 27 → has_bit (get_or words place 0) label ≡ true
      → mask_arc (words ++ more) place label ≡ mask_arc words place label
  arc_grown place label fine lt is =
      let room = fine.room in
      let following = place_of_label (get_or words place 0) label is lt in
      let first = at_grown place (omega arith) in
      let second = at_grown (place + 1) (omega arith) in
      let third = at_grown (place + 2 + labels_below label (get_or words place 0)) (omega (arith, room, following)) in
      rw (first, second, third) refl

  pub fine_grown : (place : ℕ) → IsFineNode words place → IsFineNode (words ++ more) place
  fine_grown place fine =
      let room = fine.room in
      let size = size_grown in
      let first = at_grown place (omega arith) in
      let second = at_grown (place + 1) (omega arith) in
      record {
        marked = rw first fine.marked;
        mask = rw first fine.mask;
        room = rw first (omega arith);
        accepts = rw (first, second) fine.accepts;
        labels = labels_from (words ++ more) place 27 (λ label lt is. each label lt (rw first at is));
      }
    where
      each : (label : ℕ) → label < 27 → has_bit (get_or words place 0) label ≡ true → label_fault (words ++ more) place label ≡ None
      each label lt is =
          let facts = label_facts words place label (label_fine words place 27 label fine.labels lt is) in
          let same = arc_grown place label fine lt is in
          label_from (words ++ more) place label
          (subst (λ (arc : Arc). points_back (words ++ more) (place + 1) arc.target ≡ true) (sym same) (points_grown (place + 1) (mask_arc words place label).target facts.0))
          (subst (λ (arc : Arc). (arc.accepts || ltb 0 arc.target) ≡ true) (sym same) facts.1)

  among_grown : (place from count : ℕ) → IsFineNode words place → from + count ≡ 27 → arcs_among (words ++ more) place from count ≡ arcs_among words place from count
  among_grown place from zero fine size = among_none (words ++ more) place from ∙ sym (among_none words place from)
  among_grown place from (suc count) fine size =
      by (has_bit (get_or words place 0) from) refl (at_grown place (let room = fine.room in omega arith)) (among_grown place (from + 1) count fine (omega arith))
    where
      by : (has : Bool) → has_bit (get_or words place 0) from ≡ has → get_or (words ++ more) place 0 ≡ get_or words place 0
          → arcs_among (words ++ more) place (from + 1) count ≡ arcs_among words place (from + 1) count
          → arcs_among (words ++ more) place from (suc count) ≡ arcs_among words place from (suc count)
      by true is same rest =
          among_has (words ++ more) place from count (rw same is)
          ∙ rw (arc_grown place from fine (omega arith) is, rest) (sym (among_has words place from count is))
      by false is same rest =
          among_lacks (words ++ more) place from count (rw same is) ∙ rest ∙ sym (among_lacks words place from count is)

  -- ---- all nodes

  past_all : (remaining place : ℕ) → length (words ++ more) ≤ place → nodes_fault (words ++ more) remaining place ≡ None
  unfolding nodes_fault
  past_all zero place le = refl
  past_all (suc remaining) place le = let past = le-ltb place (length (words ++ more)) le in rw past refl

  over_node : (enough from : ℕ) → IsFineNode words from → nodes_fault (words ++ more) enough (from + node_size (get_or words from 0)) ≡ None
      → nodes_fault (words ++ more) (suc enough) from ≡ None
  unfolding nodes_fault
  over_node enough from here rest =
      let room = here.room in
      let same = at_grown from (omega arith) in
      let size = size_grown in
      let lt : ltb from (length (words ++ more)) ≡ true = lt-ltb from (length (words ++ more)) (omega arith) in
      let none = node_from (words ++ more) from (fine_grown from here) in
      rw (lt, none, same) rest

  last_node : node_fault (words ++ more) (length words) ≡ None → length words + node_size (get_or (words ++ more) (length words) 0) ≡ length (words ++ more)
      → (enough from : ℕ) → from ≡ length words → nodes_fault (words ++ more) (suc enough) from ≡ None
  unfolding nodes_fault
  last_node fine all enough from same =
      let lt : ltb (length words) (length (words ++ more)) ≡ true = lt-ltb (length words) (length (words ++ more)) (omega arith) in
      rw (same, lt, fine, all) (past_all enough (length (words ++ more)) (omega arith))

  -- if the words after are those of one node without a fault, there is no fault
  pub nodes_grown : node_fault (words ++ more) (length words) ≡ None → length words + node_size (get_or (words ++ more) (length words) 0) ≡ length (words ++ more)
      → (remaining enough from : ℕ) → nodes_fault words remaining from ≡ None → length words ≤ from + remaining → length (words ++ more) ≤ from + enough → from ≤ length words
      → nodes_fault (words ++ more) enough from ≡ None
  unfolding nodes_fault
  nodes_grown fine all remaining zero from e l m le = refl
  nodes_grown fine all zero (suc enough) from e l m le = last_node fine all enough from (omega arith)
  nodes_grown fine all (suc remaining) (suc enough) from e l m le = elim (cases_lt from (length words)) [
    | inl inside ↦
        let lt : ltb from (length words) ≡ true = lt-ltb from (length words) inside in
        let whole : option_or (node_fault words from) (nodes_fault words remaining (from + node_size (get_or words from 0))) ≡ None = rw lt at e in
        let parts = neither (node_fault words from) (nodes_fault words remaining (from + node_size (get_or words from 0))) whole in
        let here = node_facts words from parts.0 in
        let room = here.room in
        over_node enough from here
        (nodes_grown fine all remaining enough (from + node_size (get_or words from 0)) parts.1 (omega arith) (omega arith) (omega (arith, room)))
    | inr after ↦ last_node fine all enough from (omega arith)
  ]

  pub node_grown : (n : ℕ) → IsMaskBody words → is_mask_node words n ≡ true → mask_node (words ++ more) n ≡ mask_node words n
  node_grown zero body is = refl
  node_grown (suc place) body is = among_grown place 0 27 (node_fine words place body.few body.fine is) (omega arith)
