-- What the words of lines are: a word list that has the words on the lines.
use Rattle.std.specs.Prelude.{nat_eq}
use Rattle.std.proofs.Common.{◌≡◌, ℕ, ◌+◌, ◌≤◌, Bool, true, false, cond, ◌||◌, leb, ltb, List, [], ◌∷◌, ◌++◌, length, Option, Some, None, Result, Ok, Err, arith, sym, ap, refl, ◌∙◌, subst, append_assoc, append-nil, inl, inr, ◌⊎◌}
use Rattle.std.specs.BTreeSet.{insert_key}
use Rattle.std.specs.Char.{is_ascii_alphabetic, is_ascii_uppercase, to_ascii_uppercase}
use Rattle.std.specs.Cmp.Lexicographic.{pointwise}
use Rattle.std.specs.List.{fold, list_all, list_any}
use Rattle.std.specs.List.Sorted.{IsStrictlySortedBy}
use Rattle.std.proofs.Math.Bool.{or-false}
use Rattle.std.proofs.lemmas.Bool.{and_parts, leb-true, false≢true}
use Rattle.std.proofs.lemmas.Bool.Decides.{nat_tests}
use Rattle.std.proofs.lemmas.List.{length-map}
use Rattle.std.proofs.lemmas.List.Folds.{Any-from_list_any, list_any-from_Any}
use Rattle.std.proofs.lemmas.Slice.Eq.{bytes_eq-Decides}
use Rattle.first_faults.specs.Checks.{passes, or_fault}
use Rattle.first_faults.proofs.CheckLaws.{checked, none_first, or_fault_some}
use Rattle.first_faults.proofs.FirstBadLaws.{no_earlier, first_bad-is}
use Rattle.lex_list.specs.declared.faults.ListWhy.TheVariants as why
use Rattle.lex_list.specs.declared.faults.ListFault.{ListFault}
use Rattle.lex_list.specs.Faults.{no_memory}
use Rattle.lex_list.specs.Lines.{lines_of}
use Rattle.lex_list.specs.Words.{most_words, has_word_length, is_word, word_order, is_listed, IsWordList}
use Rattle.lex_list.specs.Lists.{list_of, spelling_fault, capitals, with_line, words_in, fault_of, fault_after, first_bad_line, at_line, list_in, Holds, HoldsWordsOf, IsFirstFault, IsFaultOf, most_list_bytes}
use Rattle.lex_list.proofs.Orders.{ordered_more, all_more, any_more, listed_from_member, member_from_listed}
use Rattle.lex_list.proofs.Steps.{words_in_more}

-- ---- a line without a fault

capital_is : (byte : ℕ) → is_ascii_alphabetic byte ≡ true → is_ascii_uppercase (to_ascii_uppercase byte) ≡ true
capital_is byte e = grind (arith, nat_tests)

capitals_are : (line : List ℕ) → list_all is_ascii_alphabetic line ≡ true → list_all is_ascii_uppercase (capitals line) ≡ true
capitals_are [] e = refl
capitals_are (byte ∷ line) e =
    let parts = and_parts (is_ascii_alphabetic byte) (list_all is_ascii_alphabetic line) e in
    rw (capital_is byte parts.0, capitals_are line parts.1) refl

word_is : (line : List ℕ) → spelling_fault line ≡ None → is_word (capitals line) ≡ true
unfolding spelling_fault
word_is line e =
    let first = checked (list_all is_ascii_alphabetic line) why.BadLetter (passes (has_word_length line) why.BadLength ∷ []) e in
    let second = checked (has_word_length line) why.BadLength [] first.1 in
    rw (capitals_are line first.0, length-map line to_ascii_uppercase) second.0

-- a line without a fault keeps a word list
pub proper_more : (words : List (List ℕ)) (line : List ℕ) → IsWordList words → fault_of words line ≡ None → IsWordList (with_line words line)
unfolding fault_of with_line
proper_more words [] p e = p
proper_more words (byte ∷ line) p e =
    let word = capitals (byte ∷ line) in
    let parts = none_first (spelling_fault (byte ∷ line)) (passes (leb (length (insert_key word_order words word)) most_words) why.TooMany ∷ []) e in
    let room = checked (leb (length (insert_key word_order words word)) most_words) why.TooMany [] parts.1 in
    record {
      ordered = ordered_more words word p.ordered;
      each = all_more is_word words word (word_is (byte ∷ line) parts.0) p.each;
      few = leb-true (length (insert_key word_order words word)) most_words room.0;
    }

proper_from : (before rest : List (List ℕ)) → IsWordList (words_in before) → first_bad_line before rest ≡ None → IsWordList (words_in (before ++ rest))
unfolding first_bad_line
proper_from before [] p e = subst (λ lines. IsWordList (words_in lines)) (sym (append-nil before)) p
proper_from before (line ∷ rest) p e =
    let parts = no_earlier (at_line (length before + 1)) (fault_of (words_in before) line) (first_bad_line (before ++ line ∷ []) rest) e in
    let more : IsWordList (words_in (before ++ line ∷ [])) = rw (words_in_more before line) (proper_more (words_in before) line p parts.0) in
    rw append_assoc at (proper_from (before ++ line ∷ []) rest more parts.1)

no_words : IsWordList (words_in [])
unfolding words_in IsStrictlySortedBy
no_words = record { ordered = tt; each = refl; few = omega arith }

list_parts : (o : Option ListFault) (words list : List (List ℕ)) → or_fault o words ≡ Ok list → (o ≡ None) × (words ≡ list)
list_parts None words list e = (refl, cc)
list_parts (Some fault) words list e = absurd cc

-- the words of lines are a word list
pub list_proper : (lines list : List (List ℕ)) → list_in lines ≡ Ok list → IsWordList list
unfolding list_in
list_proper lines list e =
    let parts = list_parts (first_bad_line [] lines) (words_in lines) list e in
    subst IsWordList parts.1 (proper_from [] lines no_words parts.0)

-- ---- the words on lines

holds : List ℕ → List ℕ → Bool
holds word [] = false
holds word (byte ∷ line) = pointwise nat_eq word (capitals (byte ∷ line))

or_parts : (a b c : Bool) → ((a || b) || c) ≡ (b || (a || c))
or_parts true true c = refl
or_parts true false c = refl
or_parts false b c = refl

any_in : (word : List ℕ) (words lines : List (List ℕ)) → list_any (pointwise nat_eq word) (fold with_line words lines) ≡ (list_any (pointwise nat_eq word) words || list_any (holds word) lines)
unfolding with_line holds
any_in word words [] = sym (or-false _)
any_in word words ([] ∷ lines) = any_in word words lines
any_in word words ((byte ∷ line) ∷ lines) =
    any_in word (insert_key word_order words (capitals (byte ∷ line))) lines
    ∙ ap (λ some. some || list_any (holds word) lines) (any_more (pointwise nat_eq word) words (capitals (byte ∷ line)))
    ∙ or_parts (pointwise nat_eq word (capitals (byte ∷ line))) (list_any (pointwise nat_eq word) words) (list_any (holds word) lines)

listed_in : (word : List ℕ) (lines : List (List ℕ)) → is_listed (words_in lines) word ≡ list_any (holds word) lines
unfolding is_listed words_in
listed_in word lines = any_in word [] lines

held : (word line : List ℕ) → holds word line ≡ true → Holds word line
unfolding holds
held word [] e = absurd (false≢true e)
held word (byte ∷ line) e = record { filled = λ none. absurd cc; letters = sym ((bytes_eq-Decides word (capitals (byte ∷ line))).0 e) }

holds_from : (word line : List ℕ) → Holds word line → holds word line ≡ true
unfolding holds
holds_from word [] h = absurd (h.filled refl)
holds_from word (byte ∷ line) h = (bytes_eq-Decides word (capitals (byte ∷ line))).1 (sym h.letters)

-- the words of lines are exactly those on them
pub list_holds : (lines list : List (List ℕ)) → list_in lines ≡ Ok list → HoldsWordsOf list lines
unfolding list_in
list_holds lines list e =
    let parts = list_parts (first_bad_line [] lines) (words_in lines) list e in
    subst (λ words. HoldsWordsOf words lines) parts.1 (λ word. (
      λ member. let some = Any-from_list_any (holds word) lines (sym (listed_in word lines) ∙ listed_from_member (words_in lines) word member) in
          (some.0, some.1, some.2, some.3, held word some.1 some.4),
      λ some. member_from_listed (words_in lines) word
          (listed_in word lines ∙ list_any-from_Any (holds word) lines (some.0, some.1, some.2, some.3, holds_from word some.1 some.4)),
    ))

-- ---- the first fault

-- the fault of lines is that of the first with one
pub list_first : (lines : List (List ℕ)) (fault : ListFault) → list_in lines ≡ Err fault → IsFirstFault lines fault
unfolding list_in first_bad_line
list_first lines fault e = first_bad-is at_line fault_after lines fault (or_fault_some (first_bad_line [] lines) (words_in lines) fault e)

-- the fault of a text that is not too long
pub text_fault : (text : List ℕ) (lines : List (List ℕ)) (fault : ListFault) → length text ≤ most_list_bytes → lines ≡ lines_of text
    → (fault ≡ no_memory) ⊎ (list_in lines ≡ Err fault) → IsFaultOf text fault
text_fault text lines fault short of (inl memory) = inl memory
text_fault text lines fault short of (inr e) = inr (inr (short, subst (λ ls. IsFirstFault ls fault) of (list_first lines fault e)))

-- ---- what a text means

short_text : (long : Bool) (fault : ListFault) (meaning : Result (List (List ℕ)) ListFault) (words : List (List ℕ)) → cond long (Err fault) meaning ≡ Ok words → meaning ≡ Ok words
short_text true fault meaning words e = absurd cc
short_text false fault meaning words e = e

-- a text means a word list, whose words are those of its lines
pub meaning_is : (text : List ℕ) (words : List (List ℕ)) → list_of text ≡ Ok words → IsWordList words × HoldsWordsOf words (lines_of text)
unfolding list_of
meaning_is text words e =
    let lines = short_text (ltb most_list_bytes (length text)) (at_line 0 why.TooLong) (list_in (lines_of text)) words e in
    (list_proper (lines_of text) words lines, list_holds (lines_of text) words lines)
