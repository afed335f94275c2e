-- When a compiled lexicon is that of a word list, and what a check answers if it is not.
use Rattle.std.specs.Prelude.{◌≡◌, ◌≢◌, ℕ, ◌+◌, ◌==◌, nat_le, List, length, None, if◌then◌else◌}
use Rattle.lex_file.specs.Languages.{language_of}
use Rattle.lex_list.specs.RotatedPaths.{is_path, mark, StandsFor}
use Rattle.lex_file.specs.Shapes.{word_count_of, fault_of}
use Rattle.lex_check.specs.declared.checks.Mismatch.{Mismatch}
use Rattle.lex_check.specs.declared.checks.Mismatch.TheVariants as why
use Rattle.lex_check.specs.declared.differences.Difference.TheVariants as difference
use Rattle.lex_check.specs.Differences.{IsFirstDifference}

-- a file is that of the words: its language stands for their rotated paths, and it states their number
pub record IsAgreed (words : List (List ℕ)) (bytes : List ℕ) : Type 0 where
  pub paths : StandsFor (language_of bytes) words
  pub count : word_count_of bytes ≡ length words

-- Bytes are the compiled lexicon of a list of words: they have the shape of one, its language is the rotated paths of
-- the words, and it states their number.
pub record IsLexiconOf (words : List (List ℕ)) (bytes : List ℕ) : Type 0 where
  pub shape : fault_of bytes ≡ None
  pub agreed : IsAgreed words bytes

-- Why a file is not that of the words: the first difference of its language and their paths, or if there is none, its number of
-- words. Lack of memory says nothing about them.
abbrev pub IsMismatch : List (List ℕ) → List ℕ → Mismatch → Type 0
IsMismatch words bytes (why.Missing path) = IsFirstDifference (language_of bytes) (is_path words) (difference.Missing path)
IsMismatch words bytes (why.Extra path) = IsFirstDifference (language_of bytes) (is_path words) (difference.Extra path)
IsMismatch words bytes why.WordCount = StandsFor (language_of bytes) words × (word_count_of bytes ≢ length words)
IsMismatch words bytes why.NoMemory = Unit {0}

-- how reports print a label: + for the mark, and the letters A to Z
abbrev pub symbol_of : ℕ → ℕ
symbol_of label = if label == mark then 43 else if nat_le label 26 then label + 64 else 63
