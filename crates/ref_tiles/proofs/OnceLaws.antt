-- In a text that states rules, each item has exactly one line.
use Rattle.std.specs.Prelude.{option_map, is_some, IfOk}
use Rattle.std.proofs.Common.{◌≡◌, ℕ, ◌+◌, ◌<◌, Bool, true, false, arith, List, [], ◌∷◌, ◌++◌, length, get_or, Option, Some, None, Result, Ok, Err, sym, subst, ◌∙◌, refl, inl, inr, append_assoc}
use Rattle.std.specs.List.{list_all}
use Rattle.std.specs.Option.{option_or, IsSomeAnd}
use Rattle.std.proofs.lemmas.Bool.Decides.{eqb_tells}
use Rattle.std.proofs.lemmas.List.Folds.{list_all_at}
use Rattle.first_faults.specs.Checks.{passes, first_fault, or_fault}
use Rattle.first_faults.proofs.FirstBadLaws.{no_earlier}
use Rattle.text_lines.specs.Lines.{lines_of}
use Rattle.ref_tiles.specs.declared.rules_faults.RulesWhy.{RulesWhy}
use Rattle.ref_tiles.specs.declared.rules_faults.RulesWhy.TheVariants as why
use Rattle.ref_tiles.specs.declared.rules_faults.RulesFault.{RulesFault}
use Rattle.ref_tiles.specs.declared.rulebook.Rules.{Rules}
use Rattle.ref_tiles.specs.declared.parts.RuleParts.{RuleParts}
use Rattle.ref_tiles.specs.declared.statements.Statement.{Statement}
use Rattle.ref_tiles.specs.declared.statements.Entry.{Entry}
use Rattle.ref_tiles.specs.Parts.{are_in_limits}
use Rattle.ref_tiles.specs.RulesFaults.{at_line}
use Rattle.ref_tiles.specs.Statements.{statement_of}
use Rattle.ref_tiles.specs.RulesTexts.{stated_by, entry_in, entries_in, repeats, fault_after, first_bad_line, parts_with, whole_fault, drafted, ended, Gives, IsOnce, AreOnce}
use Rattle.ref_tiles.proofs.RulesSteps.{entry_in-append, entries_at, length-entries}

some-or : (a b : Option Entry) → is_some a ≡ true → is_some (option_or a b) ≡ true
some-or None b e = absurd cc
some-or (Some x) b e = refl

-- a line without a fault is not about an item that was already stated
not_again : (front : List (List ℕ)) (line : List ℕ) (item : ℕ) → fault_after front line ≡ None → is_some (entry_in front item) ≡ true → stated_by item (statement_of line) ≡ None
unfolding fault_after
not_again front line item fine some = by (statement_of line) fine
  where
    by : (r : Result (Option Statement) RulesWhy) → repeats front r ≡ None → stated_by item r ≡ None
    by (Err w) fine = absurd cc
    by (Ok None) fine = refl
    by (Ok (Some s)) fine =
        elim (eqb_tells s.item item) [
          | inl same ↦
              let there : is_some (entry_in front s.item) ≡ true = subst (λ i. is_some (entry_in front i) ≡ true) (sym same.1) some in
              let fails = rw there at fine in
              absurd cc
          | inr other ↦ rw other.0 refl
        ]

none_later : (front rest : List (List ℕ)) (item : ℕ) → first_bad_line front rest ≡ None → is_some (entry_in front item) ≡ true → entry_in rest item ≡ None
unfolding first_bad_line entry_in
none_later front [] item fine some = refl
none_later front (line ∷ rest) item fine some =
    let parts = no_earlier (at_line (length front + 1)) (fault_after front line) (first_bad_line (front ++ line ∷ []) rest) fine in
    let here = not_again front line item parts.0 some in
    let more : is_some (entry_in (front ++ line ∷ []) item) ≡ true = rw (entry_in-append front line item) (some-or (entry_in front item) (stated_by item (statement_of line)) some) in
    rw here (none_later (front ++ line ∷ []) rest item parts.1 more)

once_from : (before rest : List (List ℕ)) (item : ℕ) (e : Entry) → first_bad_line before rest ≡ None → entry_in before item ≡ None → entry_in rest item ≡ Some e → IsOnce (before ++ rest) item e
unfolding first_bad_line entry_in
once_from before [] item e fine none there = absurd cc
once_from before (line ∷ rest) item e fine none there =
    let parts = no_earlier (at_line (length before + 1)) (fault_after before line) (first_bad_line (before ++ line ∷ []) rest) fine in
    by (stated_by item (statement_of line)) refl parts.1
    (λ nothing following. once_from (before ++ line ∷ []) rest item e parts.1 (entry_in-append before line item ∙ rw (none, nothing) refl) following)
    there
  where
    by : (o : Option Entry) → stated_by item (statement_of line) ≡ o → first_bad_line (before ++ line ∷ []) rest ≡ None
        → (stated_by item (statement_of line) ≡ None → entry_in rest item ≡ Some e → IsOnce ((before ++ line ∷ []) ++ rest) item e)
        → option_or o (entry_in rest item) ≡ Some e → IsOnce (before ++ line ∷ rest) item e
    by None is fine later there = subst (λ lines. IsOnce lines item e) (append_assoc before (line ∷ []) rest) (later is there)
    by (Some x) is fine later there =
        let some : is_some (entry_in (before ++ line ∷ []) item) ≡ true = rw (entry_in-append before line item, none, is) refl in
        record {
          before = before;
          line = line;
          following = rest;
          whole = refl;
          states = is ∙ there;
          earlier = none;
          later = none_later (before ++ line ∷ []) rest item fine some;
        }

nothing_before : (item : ℕ) → entry_in [] item ≡ None
unfolding entry_in
nothing_before item = refl

once_of : (lines : List (List ℕ)) (item : ℕ) → first_bad_line [] lines ≡ None → is_some (entry_in lines item) ≡ true → IsSomeAnd (entry_in lines item) (IsOnce lines item)
once_of lines item fine some = by (entry_in lines item) refl some
  where
    by : (o : Option Entry) → entry_in lines item ≡ o → is_some o ≡ true → IsSomeAnd o (IsOnce lines item)
    by None is some = absurd cc
    by (Some e) is some = once_from [] lines item e fine (nothing_before item) is

-- the lines of a draft that ends well
draft_lines : (lines : List (List ℕ)) (entries : List (Option Entry)) → drafted lines ≡ Ok entries → (first_bad_line [] lines ≡ None) × (entries_in lines ≡ entries)
unfolding drafted
draft_lines lines entries e = by (first_bad_line [] lines) e
  where
    by : (o : Option RulesFault) → or_fault o (entries_in lines) ≡ Ok entries → (o ≡ None) × (entries_in lines ≡ entries)
    by None e = (refl, cc)
    by (Some fault) e = absurd cc

draft_whole : (entries : List (Option Entry)) (parts : RuleParts) → ended entries ≡ Ok parts → list_all is_some entries ≡ true
unfolding ended whole_fault
draft_whole entries parts e = by (list_all is_some entries) e
  where
    by : (all : Bool) → or_fault (option_map (at_line 0) (first_fault (passes all why.Missing ∷ passes (are_in_limits (parts_with entries)) why.Limits ∷ []))) (parts_with entries) ≡ Ok parts
        → all ≡ true
    by true e = refl
    by false e = absurd cc

at_all : (entries : List (Option Entry)) (k : ℕ) → k < length entries → list_all is_some entries ≡ true → is_some (get_or entries k None) ≡ true
at_all entries k below all = by (is_some (get_or entries k None)) refl
  where
    by : (b : Bool) → is_some (get_or entries k None) ≡ b → is_some (get_or entries k None) ≡ true
    by true e = e
    by false e = let not = list_all_at is_some entries k None below e in absurd cc

-- each item of a text that states rules has one line
pub are_once : (text : List ℕ) (entries : List (Option Entry)) (result : Result Rules RulesFault) → drafted (lines_of text) ≡ Ok entries → Gives result (ended entries)
    → IfOk result (λ rules. AreOnce (lines_of text))
are_once text entries (Err fault) e gives = tt
are_once text entries (Ok rules) e gives =
    let lines = lines_of text in
    let read = draft_lines lines entries e in
    let all : list_all is_some (entries_in lines) ≡ true = rw read.1 (draft_whole entries _ gives) in
    λ item below. once_of lines item read.0
    (rw (sym (entries_at lines item below)) (at_all (entries_in lines) item (omega (arith, length-entries lines, below)) all))
