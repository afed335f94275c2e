-- The arcs of a node are gathered label by label, and then the node is placed.
use Rattle.std.proofs.Common.{◌≡◌, ◌≢◌, ℕ, zero, suc, ◌+◌, ◌<◌, ◌≤◌, Bool, true, false, cond, ◌||◌, eqb, ltb, List, [], ◌∷◌, ◌++◌, map, length, get_or, Option, Some, None, IsSome, Result, Ok, Err, IfOk, IfErr, MatchResult, inl, inr, refl, sym, ap, subst, ◌∙◌, arith, append_assoc, append-nil}
use Rattle.std.specs.Prelude.{IsTrue}
use Rattle.std.specs.List.{list_all}
use Rattle.std.proofs.Math.ListN.{get_or-append}
use Rattle.std.proofs.Math.Seq.{get_or-append_seam}
use Rattle.std.proofs.lemmas.List.{length-append}
use Rattle.std.proofs.lemmas.Bool.{lt-ltb, ltb-true, eq-eqb, eqb-true, eqb-false, false≢true, cases_lt, and_parts}
use Rattle.lex_file.specs.declared.arcs.Arc.{Arc}
use Rattle.lex_file.specs.Arcs.{arc_of, is_last, has_label, arc_with, accepts_of, target_of}
use Rattle.lex_file.specs.Nodes.{node_at, is_first}
use Rattle.lex_file.specs.Languages.{tail_in}
use Rattle.lex_file.specs.Lexicons.{is_label, IsAfter, NextGives}
use Rattle.lex_file.specs.laws.Graphs.{none_of_zero}
use Rattle.lex_file.proofs.Runs.{not_equal}
use Rattle.lex_build.specs.Bodies.{IsBody, IsGrown, is_target, IsOpenArc, IsArcList, IsPlaced, IsUnplaced}
use Rattle.lex_build.specs.Labels.{HasLabels}
use Rattle.lex_build.specs.Walks.{IsWritten, IsUnwritten}
use Rattle.lex_build.specs.declared.faults.BuildFault.{BuildFault}
use Rattle.lex_build.specs.declared.faults.BuildFault.TheVariants as why
use Rattle.lex_build.proofs.Growth.{tails_grown, target_grown, target_of_first}
use Rattle.lex_build.proofs.Labels.{has_below, labels_none, labels_alone, labels_more, labels_all}

-- whether a string is a tail of a node with these arcs
unfoldable pub arcs_tail : (ℕ → List Arc) → List Arc → List ℕ → Bool
arcs_tail node arcs [] = false
arcs_tail node arcs (label ∷ []) = accepts_of (arc_with label arcs)
arcs_tail node arcs (label ∷ after ∷ rest) = tail_in node (target_of (arc_with label arcs)) (after ∷ rest)

-- The arcs of a node for all labels below one, and what is written for them.
pub record IsGathered (old now : List ℕ) (has : List ℕ → Bool) (from : ℕ) (arcs : List ℕ) : Type 0 where
  pub grown : IsGrown old now
  pub list : IsArcList now arcs
  pub below : (place : ℕ) → place < length arcs → (arc_of (get_or arcs place 0)).label < from
  pub tails : (label : ℕ) (rest : List ℕ) → label < from → arcs_tail (node_at now) (map arc_of arcs) (label ∷ rest) ≡ has (label ∷ rest)
  pub nothing : length arcs ≡ 0 → now ≡ old
  pub count : ℕ
  pub labels : HasLabels (has_below has from) count
  pub size : length now + length arcs ≤ length old + count

-- ---- the arc with a label

with_other : (arcs : List ℕ) (word label : ℕ) → (arc_of word).label ≢ label → arc_with label (map arc_of (arcs ++ word ∷ [])) ≡ arc_with label (map arc_of arcs)
with_other [] word label other = let e = not_equal (arc_of word).label label other in rw e refl
with_other (first ∷ arcs) word label other = ap (λ (found : Option Arc). cond (has_label label (arc_of first)) (Some (arc_of first)) found) (with_other arcs word label other)

with_none : (arcs : List ℕ) (label : ℕ) → ((place : ℕ) → place < length arcs → (arc_of (get_or arcs place 0)).label ≢ label) → arc_with label (map arc_of arcs) ≡ None
with_none [] label others = refl
with_none (first ∷ arcs) label others =
    let e = not_equal (arc_of first).label label (others 0 (omega arith)) in
    rw e (with_none arcs label (λ place lt. others (suc place) (omega arith)))

with_new : (arcs : List ℕ) (word label : ℕ) → ((place : ℕ) → place < length arcs → (arc_of (get_or arcs place 0)).label ≢ label) → (arc_of word).label ≡ label
    → arc_with label (map arc_of (arcs ++ word ∷ [])) ≡ Some (arc_of word)
with_new [] word label others same = let e = eq-eqb (arc_of word).label label same in rw e refl
with_new (first ∷ arcs) word label others same =
    let e = not_equal (arc_of first).label label (others 0 (omega arith)) in
    rw e (with_new arcs word label (λ place lt. others (suc place) (omega arith)) same)

target_known : (words arcs : List ℕ) (label : ℕ) → ((place : ℕ) → place < length arcs → is_target words (arc_of (get_or arcs place 0)).target ≡ true)
    → is_target words (target_of (arc_with label (map arc_of arcs))) ≡ true
target_known words [] label each = refl
target_known words (first ∷ arcs) label each = by (has_label label (arc_of first)) (target_known words arcs label (λ place lt. each (suc place) (omega arith)))
  where
    by : (here : Bool) → is_target words (target_of (arc_with label (map arc_of arcs))) ≡ true
        → is_target words (target_of (cond here (Some (arc_of first)) (arc_with label (map arc_of arcs)))) ≡ true
    by true rest = each 0 (omega arith)
    by false rest = rest

-- ---- the tails of arcs

pub tail_of_arcs : (node : ℕ → List Arc) (n : ℕ) (string : List ℕ) → tail_in node n string ≡ arcs_tail node (node n) string
unfolding tail_in arcs_tail
tail_of_arcs node n [] = refl
tail_of_arcs node n (label ∷ []) = refl
tail_of_arcs node n (label ∷ after ∷ rest) = refl

tail_none : (node : ℕ → List Arc) (arcs : List Arc) (label : ℕ) (rest : List ℕ) → node 0 ≡ [] → arc_with label arcs ≡ None → arcs_tail node arcs (label ∷ rest) ≡ false
unfolding arcs_tail
tail_none node arcs label [] empty none = rw none refl
tail_none node arcs label (after ∷ rest) empty none = rw none (none_of_zero node (after ∷ rest) empty)

tail_same : (node : ℕ → List Arc) (arcs others : List Arc) (label : ℕ) (rest : List ℕ) → arc_with label arcs ≡ arc_with label others
    → arcs_tail node arcs (label ∷ rest) ≡ arcs_tail node others (label ∷ rest)
unfolding arcs_tail
tail_same node arcs others label [] e = ap accepts_of e
tail_same node arcs others label (after ∷ rest) e = ap (λ (found : Option Arc). tail_in node (target_of found) (after ∷ rest)) e

arcs_grown : (words more arcs : List ℕ) (label : ℕ) (rest : List ℕ) → IsBody words → IsArcList words arcs
    → arcs_tail (node_at (words ++ more)) (map arc_of arcs) (label ∷ rest) ≡ arcs_tail (node_at words) (map arc_of arcs) (label ∷ rest)
unfolding arcs_tail
arcs_grown words more arcs label [] body list = refl
arcs_grown words more arcs label (after ∷ rest) body list =
    tails_grown words more (target_of (arc_with label (map arc_of arcs))) (after ∷ rest) body.fine body.closed
    (target_known words arcs label (λ place lt. (list.each place lt).target))

-- ---- more arcs

grown_more : (one two three : List ℕ) → IsGrown one two → IsGrown two three → IsGrown one three
grown_more one two three a b = record { more = a.more ++ b.more; is = b.is ∙ ap (λ (xs : List ℕ). xs ++ b.more) a.is ∙ append_assoc one a.more b.more }

open_grown : (words more : List ℕ) (word : ℕ) → IsOpenArc words word → IsOpenArc (words ++ more) word
open_grown words more word is = record { label = is.label; target = target_grown words more (arc_of word).target is.target; alive = is.alive; unmarked = is.unmarked }

-- What follows a label is written: a target, and the labels that its arc and it have.
pub record IsBranch (now new : List ℕ) (has : List ℕ → Bool) (label target : ℕ) : Type 0 where
  pub grown : IsGrown now new
  pub known : is_target new target ≡ true
  pub longer : (after : ℕ) (rest : List ℕ) → tail_in (node_at new) target (after ∷ rest) ≡ has (label ∷ after ∷ rest)
  pub alive : (has (label ∷ []) || ltb 0 target) ≡ true
  pub more : ℕ
  pub labels : (from count : ℕ) → from ≤ label → HasLabels (has_below has from) count → HasLabels (has_below has (label + 1)) (count + more)
  pub size : length new + 1 ≤ length now + more

or_right : (a b : Bool) → b ≡ true → (a || b) ≡ true
or_right true b e = refl
or_right false b e = e

or_left : (a b : Bool) → a ≡ true → (a || b) ≡ true
or_left true b e = refl
or_left false b e = absurd (false≢true e)

not_false : (b : Bool) → (b ≡ false → ⊥) → b ≡ true
not_false true h = refl
not_false false h = absurd (h refl)

-- no string is longer than the label
pub branch_ends : (now : List ℕ) (has : List ℕ → Bool) (label : ℕ) (accepts : Bool) → accepts ≡ has (label ∷ []) → (accepts ≡ false → ⊥)
    → ((after : ℕ) (rest : List ℕ) → has (label ∷ after ∷ rest) ≡ false) → IsBranch now now has label 0
branch_ends now has label accepts e alive none =
    let here : has (label ∷ []) ≡ true = sym e ∙ not_false accepts alive in
    record {
      grown = record { more = []; is = sym (append-nil now) };
      known = refl;
      longer = λ after rest. none_of_zero (node_at now) (after ∷ rest) refl ∙ sym (none after rest);
      alive = or_left (has (label ∷ [])) (ltb 0 0) here;
      more = 1;
      labels = λ from count le seen. labels_alone has from label count le seen here;
      size = omega arith;
    }

-- a node is written for the longer strings
module _ {N : Type 0} (is_node : N → Type 0) (tail : N → List ℕ → Bool) (height : N → ℕ) (node : N) (label : ℕ) (next : N)
    (is : IsAfter is_node tail height node label next) (empty : tail next [] ≡ false) where
  pub branch_goes : (now new : List ℕ) (target : ℕ) → IsWritten now new (tail next) target → IsBranch now new (tail node) label target
  branch_goes now new target written = record {
    grown = written.grown;
    known = written.target;
    longer = λ after rest. written.tails (after ∷ rest) ∙ sym (is.tails after rest);
    alive = or_right (tail node (label ∷ [])) (ltb 0 target) (lt-ltb 0 target (stored target refl));
    more = written.count + 1;
    labels = λ from count le seen. labels_more is_node tail height node from label count next written.count le seen is empty written.labels;
    size = let size = written.size in omega arith;
  }
    where
      stored : (n : ℕ) → target ≡ n → 0 < n
      stored (suc n) e = omega arith
      stored zero e =
          let none : tail_in (node_at new) target (is.some.0 ∷ is.some.1) ≡ false =
          ap (λ (n : ℕ). tail_in (node_at new) n (is.some.0 ∷ is.some.1)) e ∙ none_of_zero (node_at new) (is.some.0 ∷ is.some.1) refl
          in
          absurd (false≢true (sym none ∙ written.tails (is.some.0 ∷ is.some.1) ∙ is.some.2))

  -- nor is the node then written
  pub branch_fails : (old now : List ℕ) (from : ℕ) (arcs : List ℕ) (fault : BuildFault) → from ≤ label → IsGathered old now (tail node) from arcs
      → IsUnwritten now (tail next) fault → IsUnwritten old (tail node) fault
  branch_fails old now from arcs why.NoMemory le gathered none = tt
  branch_fails old now from arcs why.TooManyArcs le gathered none =
      let size = gathered.size in
      let many = none.many in
      record {
        count = gathered.count + (none.count + 1);
        labels = labels_all (tail node) (label + 1) (gathered.count + (none.count + 1))
            (labels_more is_node tail height node from label gathered.count next none.count le gathered.labels is empty none.labels);
        many = omega arith;
      }

-- ---- the loop

pub gathered_none : (now : List ℕ) (has : List ℕ → Bool) (arcs : List ℕ) → arcs ≡ [] → IsGathered now now has 0 arcs
gathered_none now has arcs e = subst (IsGathered now now has 0) (sym e) (record {
  grown = record { more = []; is = sym (append-nil now) };
  list = record { each = λ place lt. absurd (omega arith); rising = λ place lt. absurd (omega arith) };
  below = λ place lt. absurd (omega arith);
  tails = λ label rest lt. absurd (omega arith);
  nothing = λ _. refl;
  count = 0;
  labels = labels_none (has_below has 0);
  size = omega arith;
})

-- the facts of the word of an arc
pub record IsArcWord (word label : ℕ) (accepts : Bool) (target : ℕ) : Type 0 where
  pub label_is : (arc_of word).label ≡ label
  pub accepts_is : (arc_of word).accepts ≡ accepts
  pub target_is : (arc_of word).target ≡ target
  pub unmarked : is_last word ≡ false

module _ (old now new : List ℕ) (has : List ℕ → Bool) (from : ℕ) (arcs : List ℕ) (label : ℕ) (accepts : Bool) (target word : ℕ)
    (gathered : IsGathered old now has from arcs) (body : IsBody now) (le : from ≤ label) (low : label ≤ 26)
    (passed : (lower : ℕ) → from ≤ lower → lower < label → (rest : List ℕ) → has (lower ∷ rest) ≡ false)
    (ends : accepts ≡ has (label ∷ [])) (branch : IsBranch now new has label target) (is : IsArcWord word label accepts target) where
  old_at : (place : ℕ) → place < length arcs → get_or (arcs ++ word ∷ []) place 0 ≡ get_or arcs place 0
  old_at place lt = get_or-append arcs (word ∷ []) 0 place lt

  new_at : (place : ℕ) → place ≡ length arcs → get_or (arcs ++ word ∷ []) place 0 ≡ word
  new_at place e = ap (λ (n : ℕ). get_or (arcs ++ word ∷ []) n 0) e ∙ get_or-append_seam arcs word [] 0

  size_is : length (arcs ++ word ∷ []) ≡ length arcs + 1
  size_is = length-append arcs (word ∷ [])

  new_arc : IsOpenArc new word
  new_arc = record {
    label = let e = is.label_is in omega arith;
    target = rw is.target_is branch.known;
    alive = let one = is.accepts_is in let two = is.target_is in rw (one, two, ends) branch.alive;
    unmarked = is.unmarked;
  }

  old_arc : (place : ℕ) → place < length arcs → IsOpenArc new (get_or arcs place 0)
  old_arc place lt = rw branch.grown.is (open_grown now branch.grown.more (get_or arcs place 0) (gathered.list.each place lt))

  -- labels below the bound are those of the arcs before
  others : (lower : ℕ) → from ≤ lower → (place : ℕ) → place < length arcs → (arc_of (get_or arcs place 0)).label ≢ lower
  others lower more place lt = let under = gathered.below place lt in omega arith

  more_list : IsArcList new (arcs ++ word ∷ [])
  more_list = record { each = each; rising = rising }
    where
      each : (place : ℕ) → place < length (arcs ++ word ∷ []) → IsOpenArc new (get_or (arcs ++ word ∷ []) place 0)
      each place lt =
          let size = size_is in
          elim (cases_lt place (length arcs)) [
            | inl before ↦ subst (IsOpenArc new) (sym (old_at place before)) (old_arc place before)
            | inr after ↦ subst (IsOpenArc new) (sym (new_at place (omega arith))) new_arc
          ]

      rising : (place : ℕ) → place + 1 < length (arcs ++ word ∷ []) → (arc_of (get_or (arcs ++ word ∷ []) place 0)).label < (arc_of (get_or (arcs ++ word ∷ []) (place + 1) 0)).label
      rising place lt =
          let size = size_is in
          let here = old_at place (omega arith) in
          elim (cases_lt (place + 1) (length arcs)) [
            | inl before ↦ let next = old_at (place + 1) before in rw (here, next) (gathered.list.rising place before)
            | inr after ↦
                let next = new_at (place + 1) (omega arith) in
                let under = gathered.below place (omega arith) in
                let e = is.label_is in
                rw (here, next) (omega arith)
          ]

  more_below : (place : ℕ) → place < length (arcs ++ word ∷ []) → (arc_of (get_or (arcs ++ word ∷ []) place 0)).label < label + 1
  more_below place lt =
      let size = size_is in
      elim (cases_lt place (length arcs)) [
        | inl before ↦ let here = old_at place before in let under = gathered.below place before in rw here (omega arith)
        | inr after ↦ let here = new_at place (omega arith) in let e = is.label_is in rw here (omega arith)
      ]

  more_tails : (lower : ℕ) (rest : List ℕ) → lower < label + 1 → arcs_tail (node_at new) (map arc_of (arcs ++ word ∷ [])) (lower ∷ rest) ≡ has (lower ∷ rest)
  unfolding arcs_tail
  more_tails lower rest lt =
      elim (cases_lt lower label) [
        | inl under ↦
            let apart : (arc_of word).label ≢ lower = let e = is.label_is in omega arith in
            tail_same (node_at new) (map arc_of (arcs ++ word ∷ [])) (map arc_of arcs) lower rest (with_other arcs word lower apart)
            ∙ elim (cases_lt lower from) [
              | inl before ↦
                  subst (λ (words : List ℕ). arcs_tail (node_at words) (map arc_of arcs) (lower ∷ rest) ≡ has (lower ∷ rest)) (sym branch.grown.is)
                  (arcs_grown now branch.grown.more arcs lower rest body gathered.list ∙ gathered.tails lower rest before)
              | inr past ↦
                  tail_none (node_at new) (map arc_of arcs) lower rest refl (with_none arcs lower (others lower past)) ∙ sym (passed lower past under rest)
            ]
        | inr here ↦
            let same : lower ≡ label = omega arith in
            subst (λ (n : ℕ). arcs_tail (node_at new) (map arc_of (arcs ++ word ∷ [])) (n ∷ rest) ≡ has (n ∷ rest)) (sym same) (at_label rest)
      ]
    where
      at_label : (rest : List ℕ) → arcs_tail (node_at new) (map arc_of (arcs ++ word ∷ [])) (label ∷ rest) ≡ has (label ∷ rest)
      at_label [] = let found = with_new arcs word label (others label le) is.label_is in let e = is.accepts_is in rw (found, e) ends
      at_label (after ∷ rest) = let found = with_new arcs word label (others label le) is.label_is in let e = is.target_is in rw (found, e) (branch.longer after rest)

  pub gathered_more : (next : List ℕ) → next ≡ arcs ++ word ∷ [] → IsGathered old new has (label + 1) next
  gathered_more next e = subst (IsGathered old new has (label + 1)) (sym e) (record {
    grown = grown_more old now new gathered.grown branch.grown;
    list = more_list;
    below = more_below;
    tails = more_tails;
    nothing = λ none. let size = size_is in absurd (omega arith);
    count = gathered.count + branch.more;
    labels = branch.labels from gathered.count le gathered.labels;
    size = let size = size_is in let one = gathered.size in let two = branch.size in omega arith;
  })

-- ---- the end of the loop

module _ (old now : List ℕ) (has : List ℕ → Bool) (from : ℕ) (arcs : List ℕ) (gathered : IsGathered old now has from arcs) (empty : has [] ≡ false)
    (none : (label : ℕ) → from ≤ label → (rest : List ℕ) → has (label ∷ rest) ≡ false) where
  all_tails : (string : List ℕ) → arcs_tail (node_at now) (map arc_of arcs) string ≡ has string
  unfolding arcs_tail
  all_tails [] = sym empty
  all_tails (label ∷ rest) =
      elim (cases_lt label from) [
        | inl before ↦ gathered.tails label rest before
        | inr past ↦
            tail_none (node_at now) (map arc_of arcs) label rest refl (with_none arcs label (λ place lt. let under = gathered.below place lt in omega arith))
            ∙ sym (none label past rest)
      ]

  pub written_none : arcs ≡ [] → IsWritten old now has 0
  unfolding arcs_tail
  written_none e = record {
    grown = gathered.grown;
    target = refl;
    tails = λ string.
        none_of_zero (node_at now) string refl ∙ sym (no_arcs string) ∙ subst (λ (xs : List ℕ). arcs_tail (node_at now) (map arc_of xs) string ≡ has string) e (all_tails string);
    nothing = λ _. gathered.nothing (ap length e);
    count = gathered.count;
    labels = labels_all has from gathered.count gathered.labels;
    size = let size = gathered.size in omega arith;
  }
    where
      no_arcs : (string : List ℕ) → arcs_tail (node_at now) [] string ≡ false
      no_arcs [] = refl
      no_arcs (label ∷ rest) = tail_none (node_at now) [] label rest refl refl

  pub written_node : (new : List ℕ) (n : ℕ) → IsBody now → 0 < length arcs → IsPlaced now new arcs n → IsWritten old new has n
  unfolding arcs_tail
  written_node new n body some placed = record {
    grown = grown_more old now new gathered.grown placed.grown;
    target = target_of_first new n placed.node.first;
    tails = λ string. tail_of_arcs (node_at new) n string ∙ ap (λ (xs : List Arc). arcs_tail (node_at new) xs string) placed.node.node ∙ same string ∙ all_tails string;
    nothing = λ zero_is. absurd (false≢true (subst (λ (m : ℕ). is_first new m ≡ true) zero_is placed.node.first));
    count = gathered.count;
    labels = labels_all has from gathered.count gathered.labels;
    size = let one = gathered.size in let two = placed.size in omega arith;
  }
    where
      same : (string : List ℕ) → arcs_tail (node_at new) (map arc_of arcs) string ≡ arcs_tail (node_at now) (map arc_of arcs) string
      same [] = refl
      same (label ∷ rest) =
          subst (λ (words : List ℕ). arcs_tail (node_at words) (map arc_of arcs) (label ∷ rest) ≡ arcs_tail (node_at now) (map arc_of arcs) (label ∷ rest)) (sym placed.grown.is)
          (arcs_grown now placed.grown.more arcs label rest body gathered.list)

  pub unwritten_node : (fault : BuildFault) → IsUnplaced now arcs fault → IsUnwritten old has fault
  unwritten_node why.NoMemory full = tt
  unwritten_node why.TooManyArcs full =
      let size = gathered.size in
      record { count = gathered.count; labels = labels_all has from gathered.count gathered.labels; many = omega arith }

-- what placing the node gives
pub written_by : (old now new : List ℕ) (has : List ℕ → Bool) (from : ℕ) (arcs : List ℕ) → IsGathered old now has from arcs → has [] ≡ false
    → ((label : ℕ) → from ≤ label → (rest : List ℕ) → has (label ∷ rest) ≡ false) → IsBody now → 0 < length arcs
    → (result : Result ℕ BuildFault) → IfOk result (λ n. IsPlaced now new arcs n) → IfErr result (λ fault. IsUnplaced now arcs fault)
    → MatchResult result (λ n. IsWritten old new has n) (λ fault. IsUnwritten old has fault)
written_by old now new has from arcs gathered empty none body some (Ok n) placed unplaced = written_node old now has from arcs gathered empty none new n body some placed
written_by old now new has from arcs gathered empty none body some (Err fault) placed unplaced = unwritten_node old now has from arcs gathered empty none fault unplaced

pub none_of_test : (arcs : List ℕ) → eqb (length arcs) 0 ≡ true → arcs ≡ []
none_of_test [] e = refl
none_of_test (word ∷ arcs) e = absurd (let size = eqb-true (length (word ∷ arcs)) 0 e in omega arith)

pub some_of_test : (arcs : List ℕ) → eqb (length arcs) 0 ≡ false → 0 < length arcs
some_of_test arcs e = let other = eqb-false (length arcs) 0 e in omega arith

-- ---- labels are small

-- the first label of a string of labels
pub head_label : (label : ℕ) (rest : List ℕ) → IsTrue (list_all is_label (label ∷ rest)) → label < 27
head_label label rest all = ltb-true label 27 (and_parts (is_label label) (list_all is_label rest) all).0

pub branch_label : {N : Type 0} (is_node : N → Type 0) (tail : N → List ℕ → Bool) (height : N → ℕ) (node : N) (label : ℕ) (accepts : Bool) (next : Option N)
    → ((string : List ℕ) → tail node string ≡ true → IsTrue (list_all is_label string)) → accepts ≡ tail node (label ∷ []) → (accepts ≡ false → IsSome next)
    → NextGives is_node tail height node label next → label < 27
branch_label is_node tail height node label true next labels ends alive gives = head_label label [] (labels (label ∷ []) (sym ends))
branch_label is_node tail height node label false None labels ends alive gives = absurd (false≢true (alive refl))
branch_label is_node tail height node label false (Some next) labels ends alive gives =
    let after = gives.some.0 in
    let rest = gives.some.1 in
    head_label label (after ∷ rest) (labels (label ∷ after ∷ rest) (gives.tails after rest ∙ gives.some.2))
