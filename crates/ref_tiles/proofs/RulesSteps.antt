-- The lines of a rules text read one after another.
use Rattle.std.specs.Prelude.{option_map, is_some, slice_set}
use Rattle.std.proofs.Common.{◌≡◌, ◌≢◌, ℕ, ◌+◌, ◌<◌, cond, eqb, arith, List, [], ◌∷◌, ◌++◌, length, get_or, replicate, Option, Some, None, Result, Ok, Err, sym, subst, ap, ◌∙◌, refl, inl, inr, append_assoc}
use Rattle.std.specs.Option.{option_or}
use Rattle.std.proofs.lemmas.List.{length-append, length_push, get_or-set_same, get_or-set_other, length-set}
use Rattle.std.proofs.lemmas.List.FromFn.{length-map-range_with_len, get_or-map-range_with_len, fill_by_all}
use Rattle.std.proofs.lemmas.Bool.Decides.{eqb_tells, nat_tests}
use Rattle.first_faults.specs.Checks.{or_fault}
use Rattle.first_faults.proofs.CheckLaws.{or_fault_none, or_fault_some}
use Rattle.first_faults.proofs.FirstBadLaws.{none_remaining}
use Rattle.ref_tiles.specs.declared.rules_faults.RulesWhy.{RulesWhy}
use Rattle.ref_tiles.specs.declared.rules_faults.RulesWhy.TheVariants as why
use Rattle.ref_tiles.specs.declared.rules_faults.RulesFault.{RulesFault}
use Rattle.ref_tiles.specs.declared.statements.Statement.{Statement}
use Rattle.ref_tiles.specs.declared.statements.Entry.{Entry}
use Rattle.ref_tiles.specs.RulesFaults.{at_line}
use Rattle.ref_tiles.specs.Statements.{statement_of, IsLinePlace}
use Rattle.ref_tiles.specs.RulesTexts.{stated_by, entry_in, entries_in, repeats, fault_after, first_bad_line, more_by, drafted}

-- ---- what one more line states

pub entry_in-append : (before : List (List ℕ)) (line : List ℕ) (item : ℕ) → entry_in (before ++ line ∷ []) item ≡ option_or (entry_in before item) (stated_by item (statement_of line))
unfolding entry_in
entry_in-append [] line item = by (stated_by item (statement_of line))
  where
    by : (o : Option Entry) → option_or o None ≡ o
    by None = refl
    by (Some x) = refl
entry_in-append (x ∷ before) line item = ap (option_or (stated_by item (statement_of x))) (entry_in-append before line item) ∙ by (stated_by item (statement_of x)) (entry_in before item) (stated_by item (statement_of line))
  where
    by : (a b c : Option Entry) → option_or a (option_or b c) ≡ option_or (option_or a b) c
    by None b c = refl
    by (Some x) b c = refl

pub entries_at : (lines : List (List ℕ)) (item : ℕ) → item < 47 → get_or (entries_in lines) item None ≡ entry_in lines item
unfolding entries_in
entries_at lines item below = get_or-map-range_with_len (entry_in lines) 0 47 item item None below (omega arith)

pub length-entries : (lines : List (List ℕ)) → length (entries_in lines) ≡ 47
unfolding entries_in
length-entries lines = length-map-range_with_len (entry_in lines) 0 47

or-none : (o : Option Entry) → option_or o None ≡ o
or-none None = refl
or-none (Some x) = refl

-- nothing
nothing_more : (before : List (List ℕ)) (line : List ℕ) → statement_of line ≡ Ok None → entries_in (before ++ line ∷ []) ≡ entries_in before
unfolding entries_in
nothing_more before line e =
    sym (fill_by_all (entry_in (before ++ line ∷ [])) (entries_in before) 47 None (length-entries before)
    (λ k below. entries_at before k below ∙ sym (entry_in-append before line k ∙ rw e (or-none (entry_in before k)))))

-- something about an item of which nothing was stated
put_at : (before : List (List ℕ)) (line : List ℕ) (s : Statement) → statement_of line ≡ Ok (Some s) → entry_in before s.item ≡ None
    → (k : ℕ) → k < 47 → get_or (slice_set (entries_in before) s.item (Some s.entry)) k None ≡ entry_in (before ++ line ∷ []) k
put_at before line s e none k below =
    let size = length-entries before in
    let more = entry_in-append before line k in
    elim (eqb_tells s.item k) [
      | inl same ↦
          let inside : s.item < length (entries_in before) = omega (arith, size, same.1) in
          let placed = get_or-set_same (entries_in before) s.item (Some s.entry) None inside in
          let here : option_or (entry_in before s.item) (stated_by s.item (statement_of line)) ≡ Some s.entry = rw (none, e) (own s) in
          let moved = subst (λ i. get_or (slice_set (entries_in before) s.item (Some s.entry)) i None ≡ entry_in (before ++ line ∷ []) i) same.1 (placed ∙ sym (entry_in-append before line s.item ∙ here)) in
          moved
      | inr other ↦
          let apart : k ≢ s.item = λ e. other.1 (sym e) in
          let placed = get_or-set_other (entries_in before) s.item k (Some s.entry) None apart in
          let same : option_or (entry_in before k) (stated_by k (statement_of line)) ≡ entry_in before k = rw (e, other.0) (or-none (entry_in before k)) in
          placed ∙ entries_at before k below ∙ sym (more ∙ same)
    ]
  where
    own : (s : Statement) → cond (eqb s.item s.item) (Some s.entry) None ≡ Some s.entry
    own s = grind (arith, nat_tests)

put_more : (before : List (List ℕ)) (line : List ℕ) (s : Statement) → statement_of line ≡ Ok (Some s) → entry_in before s.item ≡ None
    → entries_in (before ++ line ∷ []) ≡ slice_set (entries_in before) s.item (Some s.entry)
unfolding entries_in
put_more before line s e none =
    sym (fill_by_all (entry_in (before ++ line ∷ [])) (slice_set (entries_in before) s.item (Some s.entry)) 47 None
    (length-set (entries_in before) s.item (Some s.entry) ∙ length-entries before) (put_at before line s e none))

-- what a line makes of the entries of the lines before it: they are those with the line, unless it has a fault
pub line_more : (before : List (List ℕ)) (line : List ℕ) (n : ℕ) → IsLinePlace (statement_of line)
    → more_by (entries_in before) n (statement_of line) ≡ or_fault (option_map (at_line n) (fault_after before line)) (entries_in (before ++ line ∷ []))
unfolding fault_after
line_more before line n place = by (statement_of line) refl place
  where
    placed : (s : Statement) (o : Option Entry) → statement_of line ≡ Ok (Some s) → entry_in before s.item ≡ o
        → cond (is_some o) (Err (at_line n why.Twice)) (Ok (slice_set (entries_in before) s.item (Some s.entry)))
        ≡ or_fault (option_map (at_line n) (cond (is_some o) (Some why.Twice) None)) (entries_in (before ++ line ∷ []))
    placed s None e none = ap Ok (sym (put_more before line s e none))
    placed s (Some x) e some = refl

    by : (r : Result (Option Statement) RulesWhy) → statement_of line ≡ r → IsLinePlace r
        → more_by (entries_in before) n r ≡ or_fault (option_map (at_line n) (repeats before r)) (entries_in (before ++ line ∷ []))
    by (Err w) e place = refl
    by (Ok None) e place = ap Ok (sym (nothing_more before line e))
    by (Ok (Some s)) e place = rw (entries_at before s.item place) (placed s (entry_in before s.item) e refl)

-- ---- how far a reading has come

-- how far a reading has come: these are the entries of the `line` lines so far, and what is wrong with the whole text is wrong with
-- what follows
pub record Progress (lines : List (List ℕ)) (entries : List (Option Entry)) (line : ℕ) (following : List (List ℕ)) : Type 0 where
  pub before : List (List ℕ)
  pub count : length before ≡ line
  pub there : entries ≡ entries_in before
  pub same : first_bad_line before following ≡ first_bad_line [] lines
  pub whole : before ++ following ≡ lines

-- no line yet
pub progress_empty : (lines : List (List ℕ)) (entries : List (Option Entry)) → entries ≡ replicate 47 None → Progress lines entries 0 lines
unfolding entries_in entry_in
progress_empty lines entries none = record { before = []; count = refl; there = none ∙ refl; same = refl; whole = refl }

-- one more line
pub progress_more : (lines : List (List ℕ)) (entries next : List (Option Entry)) (n : ℕ) (following : List (List ℕ)) (text : List ℕ) (others : List (List ℕ))
    → following ≡ text ∷ others → IsLinePlace (statement_of text) → more_by entries (n + 1) (statement_of text) ≡ Ok next
    → Progress lines entries n following → Progress lines next (n + 1) others
unfolding first_bad_line
progress_more lines entries next n following text others cut place step p =
    let made = sym (line_more p.before text (n + 1) place) ∙ ap (λ d. more_by d (n + 1) (statement_of text)) (sym p.there) ∙ step in
    let fine = or_fault_none (at_line (n + 1)) (fault_after p.before text) (entries_in (p.before ++ text ∷ [])) next made in
    let here : first_bad_line p.before (text ∷ others) ≡ first_bad_line (p.before ++ text ∷ []) others = rw fine.0 refl in
    record {
      before = p.before ++ text ∷ [];
      count = omega (arith, length_push p.before text, p.count);
      there = sym fine.1;
      same = sym here ∙ ap (first_bad_line p.before) (sym cut) ∙ p.same;
      whole = append_assoc p.before (text ∷ []) others ∙ ap (λ rest. p.before ++ rest) (sym cut) ∙ p.whole;
    }

-- a line with a fault
pub progress_fails : (lines : List (List ℕ)) (entries : List (Option Entry)) (n : ℕ) (following : List (List ℕ)) (text : List ℕ) (others : List (List ℕ)) (fault : RulesFault)
    → following ≡ text ∷ others → IsLinePlace (statement_of text) → more_by entries (n + 1) (statement_of text) ≡ Err fault
    → Progress lines entries n following → drafted lines ≡ Err fault
unfolding first_bad_line drafted
progress_fails lines entries n following text others fault cut place step p =
    let made = sym (line_more p.before text (n + 1) place) ∙ ap (λ d. more_by d (n + 1) (statement_of text)) (sym p.there) ∙ step in
    let found = or_fault_some (option_map (at_line (n + 1)) (fault_after p.before text)) (entries_in (p.before ++ text ∷ [])) fault made in
    let here : option_map (at_line (length p.before + 1)) (fault_after p.before text) ≡ Some fault = rw p.count found in
    let first : first_bad_line p.before (text ∷ others) ≡ Some fault = rw here refl in
    let whole : first_bad_line [] lines ≡ Some fault = sym p.same ∙ ap (first_bad_line p.before) cut ∙ first in
    rw whole refl

-- no more lines are read than there are
pub progress_room : (lines : List (List ℕ)) (entries : List (Option Entry)) (n : ℕ) (following : List (List ℕ)) (text : List ℕ) (others : List (List ℕ))
    → following ≡ text ∷ others → Progress lines entries n following → n < length lines
progress_room lines entries n following text others cut p = omega (arith, p.count, ap length cut, ap length p.whole, length-append p.before following)

-- no more lines
pub progress_done : (lines : List (List ℕ)) (entries : List (Option Entry)) (n : ℕ) (following : List (List ℕ)) → following ≡ [] → Progress lines entries n following
    → drafted lines ≡ Ok entries
unfolding first_bad_line drafted
progress_done lines entries n following none p =
    let all = none_remaining at_line fault_after lines p.before following none p.same p.whole in
    rw all.0 (ap Ok (sym (p.there ∙ ap entries_in all.1)))

-- what a loop over the lines of a text needs
pub ruleset steps = (progress_empty, progress_more, progress_fails, progress_room, progress_done)
