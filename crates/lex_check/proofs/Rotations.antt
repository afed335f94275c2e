-- Rotated paths, letter by letter, split by split and word by word.
use Rattle.std.proofs.Common.{◌≡◌, ℕ, zero, suc, ◌+◌, ◌-◌, ◌<◌, ◌≤◌, Bool, true, ◌&&◌, leb, List, [], ◌∷◌, ◌++◌, length, get_or, take, drop, map, length-append, length-take, length-drop, add-one, append_assoc, inl, inr, refl, sym, ap, subst, ◌∙◌, arith}
use Rattle.std.specs.Prelude.{reverse, nat_eq}
use Rattle.std.specs.Char.{is_ascii_uppercase}
use Rattle.std.specs.Cmp.Lexicographic.{pointwise, slice_cmp, texts_ties}
use Rattle.std.specs.List.{list_all, Contains, dedup}
use Rattle.std.specs.List.Sorted.{IsPermutation, IsSorted, IsSortedByKey, IsStrictlySortedBy}
use Rattle.std.specs.Ordering.{nat_cmp, is_lt}
use Rattle.std.proofs.Math.Seq.{take-append_seam, drop-append_seam}
use Rattle.std.proofs.lemmas.Bool.{and_parts, leb-true, lt-ltb, cases_lt}
use Rattle.std.proofs.lemmas.Cmp.{nat_list_cmp_total, nat_list_eq_equiv}
use Rattle.std.proofs.lemmas.List.{get_or_default, length-map, length-reverse, reverse-append, take-append-drop}
use Rattle.std.proofs.lemmas.List.Elements.{Contains-append_left, Contains-append_right, Contains-append_cases}
use Rattle.std.proofs.lemmas.List.Folds.{list_all-append}
use Rattle.std.proofs.lemmas.List.Kept.{IsStrictlySortedBy-dedup, Contains-dedup, Contains-from_dedup}
use Rattle.std.proofs.lemmas.List.Sorted.{Contains-permutation, IsPermutation-sym}
use Rattle.std.proofs.lemmas.Slice.Eq.{bytes_eq-Decides}
use Rattle.lex_list.specs.Words.{is_word, has_word_length}
use Rattle.lex_list.proofs.RotatedPaths.{capitals_in}
use Rattle.lex_list.specs.Laws.{PathsAreTested}
use Rattle.lex_file.specs.Lexicons.{is_label}
use Rattle.lex_list.specs.RotatedPaths.{label_of, marked, path_of, IsPath, StandsFor}
use Rattle.lex_check.specs.Stretches.{IsPathOfLabels, IsPathList, is_one_of}
use Rattle.lex_check.specs.laws.Stretches.{remaining_to}
use Rattle.lex_check.proofs.RemainingStrings.{remaining_from}
use Rattle.lex_check.proofs.Stretches.{same_tests}
use Rattle.lex_check.specs.Rotations.{paths_of, gathered}
use Rattle.lex_check.proofs.Held.{number_of, number_order}

pub paths_none : (word : List ℕ) → paths_of word 0 ≡ []
unfolding paths_of
paths_none word = refl

pub paths_more : (word : List ℕ) (split : ℕ) (paths : List (List ℕ)) (path : List ℕ) → path ≡ path_of (take (split + 1) word) (drop (split + 1) word)
    → (paths ++ paths_of word split) ++ path ∷ [] ≡ paths ++ paths_of word (split + 1)
unfolding paths_of
paths_more word split paths path e = rw (add-one, e, append_assoc) (rw add-one refl)

pub gathered_none : (words : List (List ℕ)) → gathered words 0 ≡ []
unfolding gathered
gathered_none words = refl

pub gathered_more : (words : List (List ℕ)) (place : ℕ)
    → gathered words place ++ paths_of (get_or words place []) (length (get_or words place [])) ≡ gathered words (place + 1)
unfolding gathered
gathered_more words place = rw add-one refl

-- ---- what the paths of words are

and_true : (a b : Bool) → a ≡ true → b ≡ true → (a && b) ≡ true
and_true a b p q = rw p q

-- a path has 1 to 16 labels
all_reversed : (p : ℕ → Bool) (xs : List ℕ) → list_all p xs ≡ true → list_all p (reverse xs) ≡ true
all_reversed p [] all = refl
all_reversed p (x ∷ xs) all =
    let parts = and_parts (p x) (list_all p xs) all in
    let last : list_all p (x ∷ []) ≡ true = rw parts.0 refl in
    subst (λ (ys : List ℕ). list_all p ys ≡ true) (sym (reverse-append (x ∷ []) xs))
    (list_all-append p (reverse xs) (x ∷ []) ∙ and_true (list_all p (reverse xs)) (list_all p (x ∷ [])) (all_reversed p xs parts.1) last)

label_of_capital : (letter : ℕ) → is_ascii_uppercase letter ≡ true → is_label (label_of letter) ≡ true
label_of_capital letter e =
    let high = leb-true letter 90 (and_parts (leb 65 letter) (leb letter 90) e).1 in
    lt-ltb (letter - 64) 27 (omega arith)

labels_of_capitals : (letters : List ℕ) → list_all is_ascii_uppercase letters ≡ true → list_all is_label (map label_of letters) ≡ true
labels_of_capitals [] all = refl
labels_of_capitals (letter ∷ letters) all =
    let parts = and_parts (is_ascii_uppercase letter) (list_all is_ascii_uppercase letters) all in
    and_true (is_label (label_of letter)) (list_all is_label (map label_of letters)) (label_of_capital letter parts.0) (labels_of_capitals letters parts.1)

labels_of_marked : (back : List ℕ) → list_all is_ascii_uppercase back ≡ true → list_all is_label (marked back) ≡ true
labels_of_marked [] all = refl
labels_of_marked (letter ∷ back) all = labels_of_capitals (letter ∷ back) all

length_of_marked : (back : List ℕ) → length (marked back) ≤ length back + 1
length_of_marked [] = omega arith
length_of_marked (letter ∷ back) = let size = length-map (letter ∷ back) label_of in omega arith

pub labels_of_path : (labels front back : List ℕ) → labels ≡ path_of front back → list_all is_ascii_uppercase front ≡ true
    → list_all is_ascii_uppercase back ≡ true → list_all is_label labels ≡ true
labels_of_path labels front back e capitals more =
    ap (list_all is_label) e
    ∙ list_all-append is_label (map label_of (reverse front)) (marked back)
    ∙ and_true (list_all is_label (map label_of (reverse front))) (list_all is_label (marked back))
    (labels_of_capitals (reverse front) (all_reversed is_ascii_uppercase front capitals)) (labels_of_marked back more)

pub path_is : (front back : List ℕ) → list_all is_ascii_uppercase front ≡ true → list_all is_ascii_uppercase back ≡ true → 0 < length front
    → length front + length back ≤ 15 → IsPathOfLabels (path_of front back)
path_is front back capitals more some few =
    let whole = length-append (map label_of (reverse front)) (marked back) in
    let first = length-map (reverse front) label_of in
    let same = length-reverse front in
    let last = length_of_marked back in
    record {
      some = omega arith;
      few = omega arith;
      labels = labels_of_path (path_of front back) front back refl capitals more;
    }

-- ---- which strings are gathered

-- a string is the path of a split of one of the first words
pub record IsGathered (words : List (List ℕ)) (count : ℕ) (string : List ℕ) : Type 0 where
  pub place : ℕ
  pub inside : place < count
  pub split : ℕ
  pub some : 0 < split
  pub within : split ≤ length (get_or words place [])
  pub path : string ≡ path_of (take split (get_or words place [])) (drop split (get_or words place []))

only_one : (path string : List ℕ) → Contains (path ∷ []) string → string ≡ path
only_one path string at = one at.0 at.1 at.2
  where
    one : (k : ℕ) → k < 1 → get_or (path ∷ []) k string ≡ string → string ≡ path
    one zero lt e = sym e
    one (suc k) lt e = absurd (omega arith)

paths_to : (word : List ℕ) (count : ℕ) (string : List ℕ) → Contains (paths_of word count) string
    → (split : ℕ) × (0 < split) × (split ≤ count) × (string ≡ path_of (take split word) (drop split word))
unfolding paths_of
paths_to word zero string at = absurd (omega (arith, at.1))
paths_to word (suc count) string at = elim (Contains-append_cases (paths_of word count) (path_of (take (suc count) word) (drop (suc count) word) ∷ []) string at) [
  | inl before ↦ let there = paths_to word count string before in (there.0, there.1, omega (arith, there.2), there.3)
  | inr last ↦ (suc count, omega arith, omega arith, only_one (path_of (take (suc count) word) (drop (suc count) word)) string last)
]

paths_from : (word : List ℕ) (count split : ℕ) → 0 < split → split ≤ count → Contains (paths_of word count) (path_of (take split word) (drop split word))
unfolding paths_of
paths_from word zero split some le = absurd (omega arith)
paths_from word (suc count) split some le = elim (cases_lt count split) [
  | inl lt ↦
      let same : suc count ≡ split = omega arith in
      Contains-append_right (paths_of word count) (path_of (take (suc count) word) (drop (suc count) word) ∷ []) _
      (0, omega arith, ap (λ (n : ℕ). path_of (take n word) (drop n word)) same)
  | inr more ↦
      Contains-append_left (paths_of word count) (path_of (take (suc count) word) (drop (suc count) word) ∷ []) _ (paths_from word count split some more)
]

pub gathered_to : (words : List (List ℕ)) (count : ℕ) (string : List ℕ) → Contains (gathered words count) string → IsGathered words count string
unfolding gathered
gathered_to words zero string at = absurd (omega (arith, at.1))
gathered_to words (suc count) string at =
    elim (Contains-append_cases (gathered words count) (paths_of (get_or words count []) (length (get_or words count []))) string at) [
      | inl before ↦
          let there = gathered_to words count string before in
          let lt = there.inside in
          record { place = there.place; inside = omega arith; split = there.split; some = there.some; within = there.within; path = there.path }
      | inr last ↦
          let there = paths_to (get_or words count []) (length (get_or words count [])) string last in
          record { place = count; inside = omega arith; split = there.0; some = there.1; within = there.2; path = there.3 }
    ]

pub gathered_from : (words : List (List ℕ)) (count : ℕ) (string : List ℕ) → IsGathered words count string → Contains (gathered words count) string
unfolding gathered
gathered_from words zero string at = absurd (let lt = at.inside in omega arith)
gathered_from words (suc count) string at =
    let lt = at.inside in
    let all = paths_of (get_or words count []) (length (get_or words count [])) in
    elim (cases_lt at.place count) [
      | inl before ↦
          Contains-append_left (gathered words count) all string
          (gathered_from words count string
          (record { place = at.place; inside = before; split = at.split; some = at.some; within = at.within; path = at.path }))
      | inr more ↦
          let same : at.place ≡ count = omega arith in
          let within = rw same at at.within in
          let path = rw same at at.path in
          Contains-append_right (gathered words count) all string
          (subst (Contains all) (sym path) (paths_from (get_or words count []) (length (get_or words count [])) at.split at.some within))
    ]

-- ---- the sorted paths are those of the words

-- what is read at a place inside does not depend on what is read past the end
read_at : (xs : List (List ℕ)) (k : ℕ) (d : List ℕ) → k < length xs → get_or xs k d ≡ get_or xs k []
read_at [] k d lt = absurd (omega arith)
read_at (x ∷ xs) zero d lt = refl
read_at (x ∷ xs) (suc k) d lt = read_at xs k d (omega arith)

word_at : (words : List (List ℕ)) → list_all is_word words ≡ true → (place : ℕ) → place < length words → is_word (get_or words place []) ≡ true
word_at [] all place lt = absurd (omega arith)
word_at (word ∷ words) all zero lt = (and_parts (is_word word) (list_all is_word words) all).0
word_at (word ∷ words) all (suc place) lt = word_at words (and_parts (is_word word) (list_all is_word words) all).1 place (omega arith)

gathered_path : (words : List (List ℕ)) (string : List ℕ) → list_all is_word words ≡ true → IsGathered words (length words) string → IsPathOfLabels string
gathered_path words string all at =
    let word = get_or words at.place [] in
    let fine = and_parts (list_all is_ascii_uppercase word) (has_word_length word) (word_at words all at.place at.inside) in
    let sizes = and_parts (leb 2 (length word)) (leb (length word) 15) fine.1 in
    let few = leb-true (length word) 15 sizes.1 in
    let within = at.within in
    let some = at.some in
    let front_long = length-take at.split word in
    let back_long = length-drop at.split word in
    let both = and_parts (list_all is_ascii_uppercase (take at.split word)) (list_all is_ascii_uppercase (drop at.split word))
    (sym (list_all-append is_ascii_uppercase (take at.split word) (drop at.split word)) ∙ ap (list_all is_ascii_uppercase) (take-append-drop at.split word) ∙ fine.0) in
    subst IsPathOfLabels (sym at.path) (path_is (take at.split word) (drop at.split word) both.0 both.1 (omega arith) (omega arith))

gathered_split : (words : List (List ℕ)) (string : List ℕ) → IsGathered words (length words) string → IsPath words string
gathered_split words string at =
    let word = get_or words at.place [] in
    let within = at.within in
    let some = at.some in
    let long = length-take at.split word in
    record {
      front = take at.split word;
      back = drop at.split word;
      listed = subst (Contains words) (sym (take-append-drop at.split word)) (at.place, at.inside, read_at words at.place (get_or words at.place []) at.inside);
      some = omega arith;
      path = at.path;
    }

split_gathered : (words : List (List ℕ)) (string : List ℕ) → IsPath words string → IsGathered words (length words) string
split_gathered words string path =
    let here : get_or words path.listed.0 [] ≡ path.front ++ path.back = sym (read_at words path.listed.0 (path.front ++ path.back) path.listed.1) ∙ path.listed.2 in
    let size = length-append path.front path.back in
    let front : take (length path.front) (get_or words path.listed.0 []) ≡ path.front = rw here (take-append_seam path.front path.back) in
    let back : drop (length path.front) (get_or words path.listed.0 []) ≡ path.back = rw here (drop-append_seam path.front path.back) in
    record {
      place = path.listed.0;
      inside = path.listed.1;
      split = length path.front;
      some = path.some;
      within = rw here (omega arith);
      path = path.path ∙ rw (front, back) refl;
    }

-- paths that are put in order, each once
pub record IsInOrder (gathered sorted kept : List (List ℕ)) : Type 0 where
  pub moved : IsPermutation gathered sorted
  pub ordered : IsSorted (slice_cmp nat_cmp) sorted
  pub once : kept ≡ dedup (pointwise nat_eq) sorted

-- paths that are put in order by their numbers are in order
pub in_order : (words paths sorted kept : List (List ℕ)) → list_all is_word words ≡ true → paths ≡ gathered words (length words) → IsPermutation paths sorted
    → IsSortedByKey number_of nat_cmp sorted → kept ≡ dedup (pointwise nat_eq) sorted → IsInOrder paths sorted kept
in_order words paths sorted kept all e moved rising once = record {
  moved = moved;
  ordered = λ k d low high.
      let x = fine (k + 1) d (omega arith) in
      let y = fine k d (omega arith) in
      ap is_lt (sym (number_order (get_or sorted (k + 1) d) (get_or sorted k d) x.few y.few x.labels y.labels)) ∙ rising k d low high;
  once = once;
}
  where
    fine : (place : ℕ) (d : List ℕ) → place < length sorted → IsPathOfLabels (get_or sorted place d)
    fine place d lt =
        let path = get_or sorted place d in
        let there : Contains paths path = Contains-permutation sorted paths path (IsPermutation-sym paths sorted moved) (place, lt, get_or_default sorted place path d lt) in
        gathered_path words path all (gathered_to words (length words) path (subst (λ (xs : List (List ℕ)). Contains xs path) e there))

kept_from : (paths sorted kept : List (List ℕ)) (string : List ℕ) → IsInOrder paths sorted kept → Contains paths string → Contains kept string
kept_from paths sorted kept string o at =
    subst (λ (xs : List (List ℕ)). Contains xs string) (sym o.once)
    (Contains-dedup nat_list_eq_equiv (λ x y e. (bytes_eq-Decides x y).0 e) sorted string (Contains-permutation paths sorted string o.moved at))

kept_to : (paths sorted kept : List (List ℕ)) (string : List ℕ) → IsInOrder paths sorted kept → Contains kept string → Contains paths string
kept_to paths sorted kept string o at =
    Contains-permutation sorted paths string (IsPermutation-sym paths sorted o.moved)
    (Contains-from_dedup (pointwise nat_eq) sorted string (subst (λ (xs : List (List ℕ)). Contains xs string) o.once at))

pub kept_list : (words paths sorted kept : List (List ℕ)) → list_all is_word words ≡ true → paths ≡ gathered words (length words) → IsInOrder paths sorted kept
    → IsPathList kept
kept_list words paths sorted kept all e o = record {
  ordered = subst (IsStrictlySortedBy (slice_cmp nat_cmp)) (sym o.once)
      (IsStrictlySortedBy-dedup nat_list_cmp_total (λ x y. texts_ties x y) sorted o.ordered);
  each = λ place lt.
      let at : Contains paths (get_or kept place []) = kept_to paths sorted kept (get_or kept place []) o (place, lt, read_at kept place (get_or kept place []) lt) in
      gathered_path words (get_or kept place []) all
      (gathered_to words (length words) (get_or kept place []) (subst (λ (xs : List (List ℕ)). Contains xs (get_or kept place [])) e at));
}

pub kept_paths : (words paths sorted kept : List (List ℕ)) → list_all is_word words ≡ true → paths ≡ gathered words (length words) → IsInOrder paths sorted kept
    → PathsAreTested → StandsFor (is_one_of kept) words
kept_paths words paths sorted kept all e o tested string =
    same_tests _ _
    (λ h.
    let at = remaining_to kept 0 string 0 (length kept) h in
    let to = at.to in
    let lt : at.place < length kept = omega arith in
    let has : Contains kept string = (at.place, lt, read_at kept at.place string lt ∙ sym at.remaining) in
    (tested words (capitals_in words all) string).1
    (gathered_split words string
    (gathered_to words (length words) string (subst (λ (xs : List (List ℕ)). Contains xs string) e (kept_to paths sorted kept string o has)))))
    (λ h.
    let path = (tested words (capitals_in words all) string).0 h in
    let has = kept_from paths sorted kept string o
    (subst (λ (xs : List (List ℕ)). Contains xs string) (sym e) (gathered_from words (length words) string (split_gathered words string path))) in
    let lt = has.1 in
    remaining_from kept 0 string 0 (length kept)
    (record { place = has.0; from = omega arith; to = omega arith; remaining = sym (sym (read_at kept has.0 string has.1) ∙ has.2) }))
