-- Laws of the definitions that contracts cite.
use Rattle.std.specs.Prelude.{◌≡◌, ℕ, ◌<◌, Bool, List, ◌++◌, length, map, reverse, All, Ok, IsTrue, ◌↔◌}
use Rattle.lex_list.specs.Lines.{lines_of}
use Rattle.lex_list.specs.Lists.{list_of, HoldsWordsOf}
use Rattle.lex_list.specs.RotatedPaths.{letter_of, after_mark, IsPath, is_path, StandsFor}
use Rattle.lex_list.specs.Words.{is_listed, IsWordList, has_capitals_alone}

-- A text that has a meaning means a word list, and its words are exactly those on the lines of the text.
abbrev pub MeaningsAreLists : Type 0
MeaningsAreLists = (text : List ℕ) (words : List (List ℕ)) → list_of text ≡ Ok words → IsWordList words × HoldsWordsOf words (lines_of text)

-- the words of a list have only capitals
abbrev pub ListsHaveCapitals : Type 0
ListsHaveCapitals = (words : List (List ℕ)) → IsWordList words → IsTrue (has_capitals_alone words)

-- the rotated paths of words, by the test and by splits
abbrev pub PathsAreTested : Type 0
PathsAreTested = (words : List (List ℕ)) → IsTrue (has_capitals_alone words) → (string : List ℕ) → IsTrue (is_path words string) ↔ IsPath words string

-- a lexicon that stands for the rotated paths of words has exactly these strings
abbrev pub StandingIsExact : Type 0
StandingIsExact =
    (words : List (List ℕ)) → IsTrue (has_capitals_alone words) → (language : List ℕ → Bool) → StandsFor language words
    → (string : List ℕ) → IsTrue (language string) ↔ IsPath words string

-- A lexicon that stands for the rotated paths of words has the splits of each word: labels other than the mark, and others after a
-- mark, are in it exactly when the first read backwards and then the others are a word.
abbrev pub SplitsAreStrings : Type 0
SplitsAreStrings =
    (words : List (List ℕ)) (language : List ℕ → Bool) → StandsFor language words → (labels rest : List ℕ) → 0 < length labels → All (λ label. 0 < label) labels
    → language (labels ++ after_mark rest) ≡ is_listed words (map letter_of (reverse labels ++ rest))
