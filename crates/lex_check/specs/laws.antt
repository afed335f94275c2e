-- The law of compiled lexicons.
pub mod Stretches
use Rattle.std.specs.Prelude.{◌≡◌, ℕ, List, Ok, ◌↔◌}
use Rattle.lex_list.specs.Lists.{list_of}
use Rattle.lex_list.specs.RotatedPaths.{IsPath}
use Rattle.lex_file.specs.Languages.{IsInLanguage}
use Rattle.lex_check.specs.Checks.{IsLexiconOf}

-- If a file is the lexicon of the words of a text, its arcs spell a string exactly when the string is a rotated path
-- of one of the words.
abbrev pub LexiconsAreExact : Type 0
LexiconsAreExact =
    (text bytes : List ℕ) (words : List (List ℕ)) → list_of text ≡ Ok words → IsLexiconOf words bytes
    → (string : List ℕ) → IsInLanguage bytes string ↔ IsPath words string
