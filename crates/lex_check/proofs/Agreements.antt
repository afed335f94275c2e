-- The checker's answers over the paths in order, as answers over the words; and what a lexicon of a list has.
use Rattle.std.proofs.Common.{◌≡◌, ℕ, Bool, List, Ok, subst, ap, ◌∙◌}
use Rattle.std.specs.Prelude.{is_none, ◌↔◌}
use Rattle.lex_list.specs.Laws.{MeaningsAreLists, ListsHaveCapitals, StandingIsExact}
use Rattle.lex_list.specs.Lists.{list_of}
use Rattle.lex_list.specs.RotatedPaths.{IsPath}
use Rattle.lex_file.specs.laws.{LanguageIsSpelt}
use Rattle.lex_file.specs.Languages.{IsInLanguage, language_of}
use Rattle.lex_check.specs.Checks.{IsLexiconOf}
use Rattle.lex_check.specs.declared.differences.Difference.{Difference}
use Rattle.lex_check.specs.Differences.{IsFirstDifference}

pub first_of_words : (file list paths : List ℕ → Bool) (difference : Difference) → ((string : List ℕ) → list string ≡ paths string)
    → IsFirstDifference file list difference → IsFirstDifference file paths difference
first_of_words file list paths difference e first =
    let same : list ≡ paths = λ i string. e string i in
    subst (λ (l : List ℕ → Bool). IsFirstDifference file l difference) same first

pub same_as_words : (file list paths : List ℕ → Bool) → ((string : List ℕ) → list string ≡ paths string)
    → ((string : List ℕ) → file string ≡ list string) → (string : List ℕ) → file string ≡ paths string
same_as_words file list paths e same string = same string ∙ e string

-- what a lexicon of the words of a text has
pub exact : LanguageIsSpelt → MeaningsAreLists → ListsHaveCapitals → StandingIsExact
    → (text bytes : List ℕ) (words : List (List ℕ)) → list_of text ≡ Ok words → IsLexiconOf words bytes
    → (string : List ℕ) → IsInLanguage bytes string ↔ IsPath words string
exact spelt means capitals standing text bytes words meaning is string =
    let list = (means text words meaning).0 in
    let reported = standing words (capitals words list) (language_of bytes) is.agreed.paths string in
    let arcs = spelt bytes (ap is_none is.shape) string in
    ((λ held. reported.0 (arcs.1 held)), (λ path. arcs.0 (reported.1 path)))
