-- Words in order, and the set of words with one more.
use Rattle.std.proofs.Common.{◌≡◌, ℕ, ◌+◌, ◌<◌, Bool, true, false, ◌||◌, List, [], ◌∷◌, length, get_or, Ordering, Result, Ok, Err, arith, sym, ap, refl, ◌∙◌, inl, inr, leb}
use Rattle.std.specs.Prelude.{is_ok, IsTrue, ◌↔◌}
use Rattle.std.specs.BTreeSet.{insert_key}
use Rattle.std.specs.FinMap.{nat_cmp-IsAntisymmetric, slice_cmp-IsAntisymmetric}
use Rattle.std.specs.List.{AllByRecursion, Contains, list_any, list_all}
use Rattle.std.specs.List.Sorted.{IsStrictlySortedBy, IsBinarySearchResult, IsSearchInRange, IsSortedBy}
use Rattle.std.specs.Ordering.{is_lt, match_ordering, ordering_reverse}
use Rattle.std.specs.declared.cmp.Ordering.TheVariants.{Less, Equal, Greater}
use Rattle.std.proofs.lemmas.Bool.{false≢true, cases_lt, and_parts, and_from, leb-true}
use Rattle.std.proofs.lemmas.Cmp.{nat_list_cmp_total, nat_list_eq_equiv, tied_itself}
use Rattle.std.proofs.lemmas.List.Sorted.{searchable_from_sorted}
use Rattle.std.proofs.lemmas.Map.Keys.{Less-from_sorted}
use Rattle.std.proofs.lemmas.Map.Views.{list_any-from_Contains, Contains-from_any}
use Rattle.std.proofs.lemmas.Slice.Eq.{bytes_eq-Decides}
use Rattle.std.specs.Char.{is_ascii_uppercase}
use Rattle.std.proofs.lemmas.List.Sums.{AllPass-from_list_all}
use Rattle.lex_list.specs.Words.{word_order, is_listed, is_word, has_word_length}

-- words that tie are equal
pub same_word : (x y : List ℕ) → word_order x y ≡ Equal → x ≡ y
same_word = slice_cmp-IsAntisymmetric nat_cmp-IsAntisymmetric

-- ---- whether a word is listed

pub listed_from_member : (words : List (List ℕ)) (word : List ℕ) → Contains words word → is_listed words word ≡ true
unfolding is_listed
listed_from_member words word = list_any-from_Contains nat_list_eq_equiv word words

pub member_from_listed : (words : List (List ℕ)) (word : List ℕ) → is_listed words word ≡ true → Contains words word
unfolding is_listed
member_from_listed words word = Contains-from_any (λ x y. (bytes_eq-Decides x y).0) word words

not_true : (b : Bool) → (b ≡ true → ⊥) → b ≡ false
not_true true h = absurd (h refl)
not_true false h = refl

pub unlisted : (words : List (List ℕ)) (word : List ℕ) → (Contains words word → ⊥) → is_listed words word ≡ false
unlisted words word h = not_true (is_listed words word) (λ e. h (member_from_listed words word e))

pub is_member : (words : List (List ℕ)) (word : List ℕ) (r : Bool) → r ≡ is_listed words word → IsTrue r ↔ Contains words word
is_member words word true e = (λ _. member_from_listed words word (sym e), λ _. refl)
is_member words word false e = (λ no. absurd (false≢true no), λ h. e ∙ listed_from_member words word h)

-- ---- binary search

not_less : (x y : List ℕ) → word_order x y ≡ Less → is_lt (word_order y x) ≡ false
not_less x y e = rw (nat_list_cmp_total.antisymm y x, e) refl

sorted_by : (words : List (List ℕ)) → IsStrictlySortedBy word_order words → IsSortedBy (λ a b. is_lt (word_order a b)) words
sorted_by words s k d low high = not_less (get_or words k d) (get_or words (k + 1) d) (Less-from_sorted word_order words k (k + 1) d s (omega arith) high)

Less≢Equal : (o : Ordering) → o ≡ Less → o ≡ Equal → ⊥
Less≢Equal o a b = cc

Greater≢Equal : (o : Ordering) → o ≡ Greater → o ≡ Equal → ⊥
Greater≢Equal o a b = cc

pub searched : (words : List (List ℕ)) (word : List ℕ) (r : Result ℕ ℕ) → IsStrictlySortedBy word_order words
    → IsSearchInRange r (length words) → IsBinarySearchResult (λ y. word_order y word) words r → is_ok r ≡ is_listed words word
searched words word (Ok i) s inside found =
    let at : get_or words i word ≡ word = same_word (get_or words i word) word (found word) in
    sym (listed_from_member words word (i, inside, at))
searched words word (Err i) s inside apart =
    let parts = apart (searchable_from_sorted nat_list_cmp_total (λ x. x) words word (sorted_by words s)) in
    let none : Contains words word → ⊥ = λ h.
    let here : word_order (get_or words h.0 word) word ≡ Equal = rw h.2 (tied_itself nat_list_cmp_total word) in
    elim (cases_lt h.0 i) [
      | inl lt ↦ Less≢Equal _ (parts.0 h.0 word (omega arith) lt) here
      | inr le ↦ Greater≢Equal _ (parts.1 h.0 word le h.1) here
    ] in
    sym (unlisted words word none)

-- words have at most 15 bytes
pub too_long : (words : List (List ℕ)) (word : List ℕ) → list_all is_word words ≡ true → 15 < length word → is_listed words word ≡ false
too_long words word each long =
    unlisted words word (λ h.
    let here : is_word word ≡ true = rw h.2 at (AllPass-from_list_all is_word words each h.0 word h.1) in
    let size = and_parts (leb 2 (length word)) (leb (length word) 15) (and_parts (list_all is_ascii_uppercase word) (has_word_length word) here).1 in
    let few = leb-true (length word) 15 size.1 in
    absurd (omega arith))

-- ---- one more word

All-word : (P Q : List ℕ → Type 0) → ((y : List ℕ) → P y → Q y) → (words : List (List ℕ)) → AllByRecursion P words → AllByRecursion Q words
All-word P Q f [] a = tt
All-word P Q f (x ∷ xs) a = (f x a.0, All-word P Q f xs a.1)

All-one_more : (P : List ℕ → Type 0) (words : List (List ℕ)) (word : List ℕ) → P word → AllByRecursion P words → AllByRecursion P (insert_key word_order words word)
All-one_more P [] word p a = (p, tt)
All-one_more P (x ∷ xs) word p a = by (word_order word x) (All-one_more P xs word p a.1)
  where
    by : (o : Ordering) → AllByRecursion P (insert_key word_order xs word)
        → AllByRecursion P (match_ordering o (word ∷ x ∷ xs) (x ∷ xs) (x ∷ insert_key word_order xs word))
    by Less h = (p, a)
    by Equal h = a
    by Greater h = (a.0, h)

after_from_before : (x y : List ℕ) → word_order x y ≡ Greater → word_order y x ≡ Less
after_from_before x y e = nat_list_cmp_total.antisymm y x ∙ ap ordering_reverse e

-- one more word keeps words in order, each once
pub ordered_more : (words : List (List ℕ)) (word : List ℕ) → IsStrictlySortedBy word_order words → IsStrictlySortedBy word_order (insert_key word_order words word)
unfolding IsStrictlySortedBy
ordered_more [] word s = (tt, tt)
ordered_more (x ∷ xs) word s = by (word_order word x) refl (ordered_more xs word s.1)
  where
    by : (o : Ordering) → word_order word x ≡ o → IsStrictlySortedBy word_order (insert_key word_order xs word)
        → IsStrictlySortedBy word_order (match_ordering o (word ∷ x ∷ xs) (x ∷ xs) (x ∷ insert_key word_order xs word))
    by Less e h = ((e, All-word (λ y. word_order x y ≡ Less) (λ y. word_order word y ≡ Less) (λ y after. nat_list_cmp_total.trans word x y e after) xs s.0), s)
    by Equal e h = s
    by Greater e h = (All-one_more (λ y. word_order x y ≡ Less) xs word (after_from_before word x e) s.0, h)

or_first : (a b c : Bool) → (a || (b || c)) ≡ (b || (a || c))
or_first true true c = refl
or_first true false c = refl
or_first false b c = refl

or_same : (a c : Bool) → (a || c) ≡ (a || (a || c))
or_same true c = refl
or_same false c = refl

-- a test of some word of a set with one more is that of the word, or of some word of the set
pub any_more : (test : List ℕ → Bool) (words : List (List ℕ)) (word : List ℕ) → list_any test (insert_key word_order words word) ≡ (test word || list_any test words)
any_more test [] word = refl
any_more test (x ∷ xs) word = by (word_order word x) refl (any_more test xs word)
  where
    by : (o : Ordering) → word_order word x ≡ o → list_any test (insert_key word_order xs word) ≡ (test word || list_any test xs)
        → list_any test (match_ordering o (word ∷ x ∷ xs) (x ∷ xs) (x ∷ insert_key word_order xs word)) ≡ (test word || (test x || list_any test xs))
    by Less e h = refl
    by Equal e h = rw (same_word word x e) (or_same (test x) (list_any test xs))
    by Greater e h = rw h (or_first (test x) (test word) (list_any test xs))

-- if each word passes a test and one more word does, all do
pub all_more : (test : List ℕ → Bool) (words : List (List ℕ)) (word : List ℕ) → test word ≡ true → list_all test words ≡ true → list_all test (insert_key word_order words word) ≡ true
all_more test [] word here a = rw here refl
all_more test (x ∷ xs) word here a = by (word_order word x) (all_more test xs word here (and_parts (test x) (list_all test xs) a).1)
  where
    by : (o : Ordering) → list_all test (insert_key word_order xs word) ≡ true
        → list_all test (match_ordering o (word ∷ x ∷ xs) (x ∷ xs) (x ∷ insert_key word_order xs word)) ≡ true
    by Less h = rw here a
    by Equal h = a
    by Greater h = and_from (test x) (list_all test (insert_key word_order xs word)) (and_parts (test x) (list_all test xs) a).0 h
