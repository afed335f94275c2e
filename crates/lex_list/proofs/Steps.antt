-- Lines read one after another.
use Rattle.std.specs.Prelude.{option_map}
use Rattle.std.proofs.Common.{◌≡◌, ℕ, ◌+◌, ◌<◌, ◌≤◌, arith, List, [], ◌∷◌, ◌++◌, length, Some, None, Ok, Err, sym, subst, ap, ◌∙◌, refl, ◌⊎◌, inl, inr, append_assoc, true, false}
use Rattle.std.proofs.lemmas.Bool.{lt-leb, le-leb}
use Rattle.std.proofs.lemmas.List.{length-append, length_push}
use Rattle.std.proofs.lemmas.List.Sums.{fold-append}
use Rattle.first_faults.proofs.CheckLaws.{or_fault_none, or_fault_some}
use Rattle.first_faults.proofs.FirstBadLaws.{none_remaining}
use Rattle.lex_list.specs.declared.faults.ListWhy.{ListWhy}
use Rattle.lex_list.specs.declared.faults.ListFault.{ListFault}
use Rattle.lex_list.specs.Faults.{no_memory}
use Rattle.std.specs.BTreeSet.{insert_key}
use Rattle.std.proofs.Common.{leb}
use Rattle.lex_list.specs.declared.faults.ListWhy.TheVariants as why
use Rattle.lex_list.specs.Words.{word_order, most_words}
use Rattle.lex_list.specs.Lists.{with_line, words_in, spelling_fault, fault_of, fault_after, first_bad_line, at_line, list_in, line_in, capitals}

-- how far a reading has come: these are the words of the `line` lines so far, and what is wrong with the whole text is wrong with
-- what follows
pub record Progress (lines words : List (List ℕ)) (line : ℕ) (following : List (List ℕ)) : Type 0 where
  pub before : List (List ℕ)
  pub count : length before ≡ line
  pub there : words ≡ words_in before
  pub same : first_bad_line before following ≡ first_bad_line [] lines
  pub whole : before ++ following ≡ lines

-- no line yet
pub progress_none : (lines : List (List ℕ)) → Progress lines [] 0 lines
unfolding words_in
progress_none lines = record { before = []; count = refl; there = refl; same = refl; whole = refl }

pub progress_empty : (lines words : List (List ℕ)) → words ≡ [] → Progress lines words 0 lines
progress_empty lines words none = subst (λ words. Progress lines words 0 lines) (sym none) (progress_none lines)

pub words_in_more : (before : List (List ℕ)) (line : List ℕ) → words_in (before ++ line ∷ []) ≡ with_line (words_in before) line
unfolding words_in
words_in_more before line = fold-append with_line [] before (line ∷ [])

-- one more line
pub progress_more : (lines words next : List (List ℕ)) (n : ℕ) (following : List (List ℕ)) (text : List ℕ) (others : List (List ℕ))
    → following ≡ text ∷ others → line_in words (n + 1) text ≡ Ok next → Progress lines words n following → Progress lines next (n + 1) others
unfolding first_bad_line
progress_more lines words next n following text others cut step p =
    let fine = or_fault_none (at_line (n + 1)) (fault_of words text) (with_line words text) next step in
    let none : fault_of (words_in p.before) text ≡ None = rw p.there at fine.0 in
    let here : first_bad_line p.before (text ∷ others) ≡ first_bad_line (p.before ++ text ∷ []) others = rw none refl in
    record {
      before = p.before ++ text ∷ [];
      count = omega (arith, length_push p.before text, p.count);
      there = sym fine.1 ∙ ap (λ ws. with_line ws text) p.there ∙ sym (words_in_more p.before text);
      same = sym here ∙ ap (first_bad_line p.before) (sym cut) ∙ p.same;
      whole = append_assoc p.before (text ∷ []) others ∙ ap (λ rest. p.before ++ rest) (sym cut) ∙ p.whole;
    }

-- a line with a fault, or no memory for it
pub progress_fails : (lines words : List (List ℕ)) (n : ℕ) (following : List (List ℕ)) (text : List ℕ) (others : List (List ℕ)) (fault : ListFault)
    → following ≡ text ∷ others → (fault ≡ no_memory) ⊎ (line_in words (n + 1) text ≡ Err fault)
    → Progress lines words n following → (fault ≡ no_memory) ⊎ (list_in lines ≡ Err fault)
unfolding first_bad_line list_in
progress_fails lines words n following text others fault cut (inl memory) p = inl memory
progress_fails lines words n following text others fault cut (inr step) p =
    let found = or_fault_some (option_map (at_line (n + 1)) (fault_of words text)) (with_line words text) fault step in
    let here : option_map (at_line (length p.before + 1)) (fault_of (words_in p.before) text) ≡ Some fault = rw (p.count, ← p.there) found in
    let first : first_bad_line p.before (text ∷ others) ≡ Some fault = rw here refl in
    let whole : first_bad_line [] lines ≡ Some fault = sym p.same ∙ ap (first_bad_line p.before) cut ∙ first in
    inr (rw whole refl)

-- no more lines are read than there are
pub progress_room : (lines words : List (List ℕ)) (n : ℕ) (following : List (List ℕ)) (text : List ℕ) (others : List (List ℕ))
    → following ≡ text ∷ others → Progress lines words n following → n < length lines
progress_room lines words n following text others cut p = omega (arith, p.count, ap length cut, ap length p.whole, length-append p.before following)

-- no more lines
pub progress_done : (lines words : List (List ℕ)) (n : ℕ) (following : List (List ℕ)) → following ≡ [] → Progress lines words n following → list_in lines ≡ Ok words
unfolding first_bad_line list_in
progress_done lines words n following none p =
    let all = none_remaining at_line fault_after lines p.before following none p.same p.whole in
    rw all.0 (ap Ok (sym (p.there ∙ ap words_in all.1)))

-- what a loop over the lines of a text needs
pub ruleset steps = (progress_empty, progress_more, progress_fails, progress_room, progress_done)

-- ---- one line

filled : (text : List ℕ) → 0 < length text → (byte : ℕ) × (rest : List ℕ) × (text ≡ byte ∷ rest)
filled [] lt = absurd (omega arith)
filled (byte ∷ rest) lt = (byte, rest, refl)

pub line_empty : (words : List (List ℕ)) (n : ℕ) (text : List ℕ) → length text ≡ 0 → line_in words n text ≡ Ok words
unfolding fault_of with_line
line_empty words n [] e = refl
line_empty words n (byte ∷ rest) e = absurd (omega arith)

pub line_bad : (words : List (List ℕ)) (n : ℕ) (text : List ℕ) (w : ListWhy) → 0 < length text → spelling_fault text ≡ Some w → line_in words n text ≡ Err (at_line n w)
unfolding fault_of
line_bad words n [] w lt e = absurd (omega arith)
line_bad words n (byte ∷ rest) w lt e = rw e refl

pub line_many : (words new : List (List ℕ)) (n : ℕ) (text word : List ℕ) → 0 < length text → (spelling_fault text ≡ None) × (word ≡ capitals text) → new ≡ insert_key word_order words word
    → 400000 < length new → line_in words n text ≡ Err (at_line n why.TooMany)
unfolding fault_of with_line most_words
line_many words new n [] word lt (e, spelt) is many = absurd (omega arith)
line_many words new n (byte ∷ rest) word lt (e, spelt) is many =
    let over : leb (length (insert_key word_order words (capitals (byte ∷ rest)))) 400000 ≡ false = rw (is, spelt) at (lt-leb (length new) 400000 many) in
    rw (e, over) refl

pub line_good : (words new : List (List ℕ)) (n : ℕ) (text word : List ℕ) → 0 < length text → (spelling_fault text ≡ None) × (word ≡ capitals text) → new ≡ insert_key word_order words word
    → length new ≤ 400000 → line_in words n text ≡ Ok new
unfolding fault_of with_line most_words
line_good words new n [] word lt (e, spelt) is few = absurd (omega arith)
line_good words new n (byte ∷ rest) word lt (e, spelt) is few =
    let under : leb (length (insert_key word_order words (capitals (byte ∷ rest)))) 400000 ≡ true = rw (is, spelt) at (le-leb (length new) 400000 few) in
    rw (e, under) (ap Ok (ap (insert_key word_order words) (sym spelt) ∙ sym is))
