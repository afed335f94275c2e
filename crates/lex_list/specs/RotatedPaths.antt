-- The rotated paths of a list of words: each word is split into a front that is not empty and a back; the letters of the front come
-- in reverse, and if the back is not empty, a mark and the back follow.
use Rattle.std.specs.Prelude.{◌≡◌, ℕ, ◌+◌, ◌-◌, ◌<◌, Bool, ◌&&◌, ◌==◌, nat_lt, List, [], ◌∷◌, ◌++◌, length, map, reverse, if◌then◌else◌}
use Rattle.std.specs.List.{Contains}
use Rattle.lex_list.specs.Words.{is_listed}

-- the label of a letter: A is 1, Z is 26
abbrev pub label_of : ℕ → ℕ
label_of letter = letter - 64

-- the letter of a label
abbrev pub letter_of : ℕ → ℕ
letter_of label = label + 64

-- the mark between front and back
abbrev pub mark : ℕ
mark = 0

-- ---- what it means

-- the mark and the back, if the back is not empty
abbrev pub marked : List ℕ → List ℕ
marked [] = []
marked (letter ∷ back) = mark ∷ map label_of (letter ∷ back)

-- the path of a split of a word
abbrev pub path_of : List ℕ → List ℕ → List ℕ
path_of front back = map label_of (reverse front) ++ marked back

-- a string is a rotated path of one of the words
pub record IsPath (words : List (List ℕ)) (string : List ℕ) : Type 0 where
  pub front : List ℕ
  pub back : List ℕ
  pub listed : Contains words (front ++ back)
  pub some : 0 < length front
  pub path : string ≡ path_of front back

-- labels after a mark, if there are any
abbrev pub after_mark : List ℕ → List ℕ
after_mark [] = []
after_mark (label ∷ rest) = mark ∷ label ∷ rest

-- ---- the test: the string is cut at its first mark, and the word is read back

-- Whether a string, read on after a front, ends as a path of one of the words does. The front so far is read back from the labels
-- before, the latest of them first.
unfoldable pub is_path_after : List (List ℕ) → List ℕ → List ℕ → Bool
is_path_after words front [] = nat_lt 0 (length front) && is_listed words front
is_path_after words front (label ∷ rest) =
    if label == mark
    then nat_lt 0 (length front) && nat_lt 0 (length rest) && is_listed words (front ++ map letter_of rest)
    else is_path_after words (letter_of label ∷ front) rest

-- whether a string is a rotated path of one of the words
abbrev pub is_path : List (List ℕ) → List ℕ → Bool
is_path words string = is_path_after words [] string

-- A lexicon stands for the rotated paths of the words: the test for its strings agrees with that for the paths. By the law of
-- rotated paths it then has a string exactly when the string is a rotated path of one of the words.
abbrev pub StandsFor : (List ℕ → Bool) → List (List ℕ) → Type 0
StandsFor language words = (string : List ℕ) → language string ≡ is_path words string
