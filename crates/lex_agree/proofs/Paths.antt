-- All rotated paths of words: there are as many as letters, no two are the same, and a set that has all of them and no more strings
-- stands for them.
use Rattle.std.proofs.Common.{◌≡◌, ℕ, zero, suc, ◌-◌, ◌<◌, ◌≤◌, Bool, true, false, cond, eqb, leb, List, [], ◌∷◌, ◌++◌, length, map, take, drop, length-append, inl, inr, refl, sym, ap, subst, ◌∙◌, arith}
use Rattle.std.specs.Prelude.{reverse, IsTrue}
use Rattle.std.specs.Char.{is_ascii_uppercase}
use Rattle.std.specs.List.{AllByRecursion, Contains, list_all}
use Rattle.std.specs.List.Sorted.{IsStrictlySortedBy}
use Rattle.std.specs.declared.cmp.Ordering.TheVariants.{Less}
use Rattle.std.proofs.lemmas.Bool.{and_parts, leb-true}
use Rattle.std.proofs.lemmas.Cmp.{nat_list_cmp_total, tied_itself}
use Rattle.std.proofs.lemmas.List.{length-map, length-reverse, length-take-le, reverse-append, reverse-reverse, take-append-drop}
use Rattle.std.proofs.lemmas.List.Elements.{Contains-append_cases}
use Rattle.std.proofs.lemmas.List.Folds.{list_all-append}
use Rattle.std.proofs.lemmas.List.Sums.{sum_by-cons}
use Rattle.lex_list.specs.RotatedPaths.{label_of, letter_of, marked, path_of, IsPath, is_path, StandsFor}
use Rattle.lex_list.specs.Words.{word_order, is_word, has_word_length, has_capitals_alone, IsWordList}
use Rattle.lex_list.proofs.RotatedPaths.{not_equal, letter_above, letter_again, capitals_of, list_capitals, tested}
use Rattle.lex_agree.specs.Counts.{HasAtMost, IsCount, letters_of}
use Rattle.lex_agree.proofs.Pigeons.{AreApart, all_there, apart_both, is_first, is_after, first_or_after}

-- every rotated path of the words is in the set
abbrev pub HoldsPaths : (List ℕ → Bool) → List (List ℕ) → Type 0
HoldsPaths has words = (string : List ℕ) → IsPath words string → IsTrue (has string)

-- the path of a word that is split after a number of letters
abbrev split_path : List ℕ → ℕ → List ℕ
split_path word split = path_of (take split word) (drop split word)

-- the paths of a word for the fronts of up to `count` letters
abbrev splits_of : List ℕ → ℕ → List (List ℕ)
splits_of word zero = []
splits_of word (suc count) = split_path word (suc count) ∷ splits_of word count

-- the paths of all words
abbrev all_paths : List (List ℕ) → List (List ℕ)
all_paths [] = []
all_paths (word ∷ words) = splits_of word (length word) ++ all_paths words

-- a word has 2 to 15 letters
pub word_sizes : (word : List ℕ) → is_word word ≡ true → (2 ≤ length word) × (length word ≤ 15)
word_sizes word is =
    let sizes = and_parts (leb 2 (length word)) (leb (length word) 15) (and_parts (list_all is_ascii_uppercase word) (has_word_length word) is).1 in
    (leb-true 2 (length word) sizes.0, leb-true (length word) 15 sizes.1)

-- ---- their number

splits_size : (word : List ℕ) (count : ℕ) → length (splits_of word count) ≡ count
splits_size word zero = refl
splits_size word (suc count) = let rest = splits_size word count in omega arith

size : (words : List (List ℕ)) → length (all_paths words) ≡ letters_of words
size [] = refl
size (word ∷ words) =
    let both = length-append (splits_of word (length word)) (all_paths words) in
    let here = splits_size word (length word) in
    let rest = size words in
    let whole = sum_by-cons length word words in
    omega arith

-- ---- what they are

-- a string is the path of a split of a word
record IsSplit (word string : List ℕ) (count : ℕ) : Type 0 where
  split : ℕ
  some : 0 < split
  within : split ≤ count
  path : string ≡ split_path word split

splits_to : (word string : List ℕ) (count : ℕ) → Contains (splits_of word count) string → IsSplit word string count
splits_to word string zero has = absurd (omega (arith, has.1))
splits_to word string (suc count) has = elim (first_or_after string (split_path word (suc count)) (splits_of word count) has) [
  | inl same ↦ record { split = suc count; some = omega arith; within = omega arith; path = sym same }
  | inr other ↦ let there = splits_to word string count other in let within = there.within in
      record { split = there.split; some = there.some; within = omega arith; path = there.path }
]

-- a string is the path of a split of one of the words
record IsSplitOf (words : List (List ℕ)) (string : List ℕ) : Type 0 where
  word : List ℕ
  listed : Contains words word
  split : IsSplit word string (length word)

all_to : (words : List (List ℕ)) (string : List ℕ) → Contains (all_paths words) string → IsSplitOf words string
all_to [] string has = absurd (omega (arith, has.1))
all_to (word ∷ words) string has = elim (Contains-append_cases (splits_of word (length word)) (all_paths words) string has) [
  | inl here ↦ record { word = word; listed = is_first word words; split = splits_to word string (length word) here }
  | inr there ↦ let more = all_to words string there in record { word = more.word; listed = is_after more.word word words more.listed; split = more.split }
]

path_to : (words : List (List ℕ)) (string : List ℕ) → Contains (all_paths words) string → IsPath words string
path_to words string has =
    let there = all_to words string has in
    let split = there.split in
    let within = split.within in
    let some = split.some in
    let long = length-take-le split.split there.word within in
    record {
      front = take split.split there.word;
      back = drop split.split there.word;
      listed = subst (Contains words) (sym (take-append-drop split.split there.word)) there.listed;
      some = omega arith;
      path = split.path;
    }

-- ---- the word and its front, read back from a path

-- the labels before the first mark
abbrev before_mark : List ℕ → List ℕ
before_mark [] = []
before_mark (label ∷ rest) = cond (eqb label 0) [] (label ∷ before_mark rest)

-- the labels after it
abbrev past_mark : List ℕ → List ℕ
past_mark [] = []
past_mark (label ∷ rest) = cond (eqb label 0) rest (past_mark rest)

-- the word of a path
abbrev word_of : List ℕ → List ℕ
word_of string = reverse (map letter_of (before_mark string)) ++ map letter_of (past_mark string)

before_none : (back : List ℕ) → before_mark (marked back) ≡ []
before_none [] = refl
before_none (letter ∷ back) = refl

past_none : (back : List ℕ) → past_mark (marked back) ≡ map label_of back
past_none [] = refl
past_none (letter ∷ back) = refl

no_mark : (letter : ℕ) → is_ascii_uppercase letter ≡ true → eqb (label_of letter) 0 ≡ false
no_mark letter capital = let above = letter_above letter capital in not_equal (letter - 64) 0 (λ e. omega arith)

before_is : (letters back : List ℕ) → list_all is_ascii_uppercase letters ≡ true → before_mark (map label_of letters ++ marked back) ≡ map label_of letters
before_is [] back capitals = before_none back
before_is (letter ∷ letters) back capitals =
    let parts = and_parts (is_ascii_uppercase letter) (list_all is_ascii_uppercase letters) capitals in
    rw (no_mark letter parts.0) (ap (λ (rest : List ℕ). label_of letter ∷ rest) (before_is letters back parts.1))

past_is : (letters back : List ℕ) → list_all is_ascii_uppercase letters ≡ true → past_mark (map label_of letters ++ marked back) ≡ map label_of back
past_is [] back capitals = past_none back
past_is (letter ∷ letters) back capitals =
    let parts = and_parts (is_ascii_uppercase letter) (list_all is_ascii_uppercase letters) capitals in
    rw (no_mark letter parts.0) (past_is letters back parts.1)

pub all_reversed : (letters : List ℕ) → list_all is_ascii_uppercase letters ≡ true → list_all is_ascii_uppercase (reverse letters) ≡ true
all_reversed [] capitals = refl
all_reversed (letter ∷ letters) capitals =
    let parts = and_parts (is_ascii_uppercase letter) (list_all is_ascii_uppercase letters) capitals in
    let rest = all_reversed letters parts.1 in
    let last : list_all is_ascii_uppercase (letter ∷ []) ≡ true = rw (parts.0) refl in
    subst (λ (turned : List ℕ). list_all is_ascii_uppercase turned ≡ true) (sym (reverse-append (letter ∷ []) letters))
    (list_all-append is_ascii_uppercase (reverse letters) (letter ∷ []) ∙ rw (rest, last) refl)

-- the first letters of a word are capitals
pub front_capitals : (word : List ℕ) (split : ℕ) → is_word word ≡ true → list_all is_ascii_uppercase (take split word) ≡ true
front_capitals word split is =
    let capitals = (and_parts (list_all is_ascii_uppercase word) (has_word_length word) is).0 in
    (and_parts (list_all is_ascii_uppercase (take split word)) (list_all is_ascii_uppercase (drop split word))
    (sym (list_all-append is_ascii_uppercase (take split word) (drop split word)) ∙ ap (list_all is_ascii_uppercase) (take-append-drop split word) ∙ capitals)).0

-- what a path of a word reads back as
record IsRead (word string : List ℕ) (split : ℕ) : Type 0 where
  whole : word_of string ≡ word
  front : length (before_mark string) ≡ split

read_back : (word string : List ℕ) (split : ℕ) → list_all is_ascii_uppercase word ≡ true → split ≤ length word → string ≡ split_path word split
    → IsRead word string split
read_back word string split capitals within path =
    let front = take split word in
    let back = drop split word in
    let both = and_parts (list_all is_ascii_uppercase front) (list_all is_ascii_uppercase back)
    (sym (list_all-append is_ascii_uppercase front back) ∙ ap (list_all is_ascii_uppercase) (take-append-drop split word) ∙ capitals) in
    let turned = all_reversed front both.0 in
    let before : before_mark string ≡ map label_of (reverse front) = ap before_mark path ∙ before_is (reverse front) back turned in
    let past : past_mark string ≡ map label_of back = ap past_mark path ∙ past_is (reverse front) back turned in
    let first : reverse (map letter_of (before_mark string)) ≡ front =
    ap (λ (labels : List ℕ). reverse (map letter_of labels)) before ∙ ap reverse (letter_again (reverse front) turned) ∙ reverse-reverse front in
    let last : map letter_of (past_mark string) ≡ back = ap (map letter_of) past ∙ letter_again back both.1 in
    record {
      whole = rw (first, last) (take-append-drop split word);
      front = ap length before ∙ length-map (reverse front) label_of ∙ length-reverse front ∙ length-take-le split word within;
    }

-- ---- no two are the same

splits_apart : (word : List ℕ) (count : ℕ) → list_all is_ascii_uppercase word ≡ true → count ≤ length word → AreApart (splits_of word count)
splits_apart word zero capitals within = tt
splits_apart word (suc count) capitals within = (
  (λ has.
      let there = splits_to word (split_path word (suc count)) count has in
      let low = there.within in
      let other = read_back word (split_path word (suc count)) there.split capitals (omega arith) there.path in
      let own = read_back word (split_path word (suc count)) (suc count) capitals within refl in
      omega (arith, other.front, own.front)),
  splits_apart word count capitals (omega arith),
)

-- a word is not one of those above it
above_all : (word other : List ℕ) (words : List (List ℕ)) → AllByRecursion (λ (y : List ℕ). word_order word y ≡ Less) words → Contains words other
    → word_order word other ≡ Less
above_all word other [] above has = absurd (omega (arith, has.1))
above_all word other (first ∷ words) above has = elim (first_or_after other first words has) [
  | inl same ↦ subst (λ (y : List ℕ). word_order word y ≡ Less) same above.0
  | inr more ↦ above_all word other words above.1 more
]

not_above : (word : List ℕ) → word_order word word ≡ Less → ⊥
not_above word less = let tied = tied_itself nat_list_cmp_total word in cc

apart : (words : List (List ℕ)) → IsStrictlySortedBy word_order words → IsTrue (has_capitals_alone words) → AreApart (all_paths words)
unfolding IsStrictlySortedBy
apart [] sorted capitals = tt
apart (word ∷ words) sorted capitals =
    let parts = and_parts (list_all is_ascii_uppercase word) (has_capitals_alone words) capitals in
    apart_both (splits_of word (length word)) (all_paths words) (splits_apart word (length word) parts.0 (omega arith)) (apart words sorted.1 parts.1)
    (λ string here there.
    let one = splits_to word string (length word) here in
    let own = read_back word string one.split parts.0 one.within one.path in
    let more = all_to words string there in
    let split = more.split in
    let other = read_back more.word string split.split (capitals_of words more.word parts.1 more.listed) split.within split.path in
    let same : word ≡ more.word = sym own.whole ∙ other.whole in
    not_above word (subst (λ (y : List ℕ). word_order word y ≡ Less) (sym same) (above_all word more.word words sorted.0 more.listed)))

-- ---- a set that has all of them, and no more strings

same_tests : (x y : Bool) → (x ≡ true → y ≡ true) → (y ≡ true → x ≡ true) → x ≡ y
same_tests true y h k = sym (h refl)
same_tests false true h k = k refl
same_tests false false h k = refl

agreed : (words : List (List ℕ)) (has : List ℕ → Bool) → IsWordList words → HasAtMost has (letters_of words) → HoldsPaths has words → StandsFor has words
agreed words has is most holds string =
    let capitals = list_capitals words is in
    let strings = most.strings in
    let few = most.few in
    let many = size words in
    same_tests (has string) (is_path words string)
    (λ there.
    (tested words capitals string).1
    (path_to words string
    (all_there (all_paths words) strings (apart words is.ordered capitals) (λ other path. most.all other (holds other (path_to words other path))) (omega arith) string
    (most.all string there))))
    (λ path. holds string ((tested words capitals string).0 path))

-- the same, from a count that is the number of letters
pub reported : (words : List (List ℕ)) (has : List ℕ → Bool) (strings letters : ℕ) → IsWordList words → IsCount has strings
    → letters ≡ letters_of words → letters ≤ 6000000 → strings ≡ letters → HoldsPaths has words → StandsFor has words
reported words has strings letters is count number few equal holds =
    let total : strings ≡ letters_of words = equal ∙ number in
    agreed words has is (subst (HasAtMost has) total (count (omega arith))) holds
