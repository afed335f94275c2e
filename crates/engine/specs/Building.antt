-- The answers about building the lexicon file of a word list.
use Rattle.std.specs.Prelude.{◌≡◌, ◌⊎◌, ℕ, List}
use Rattle.lex_build.specs.Builds.{IsBuiltOf, HasManyLabels}
use Rattle.engine_stages.specs.declared.verdicts.Verdict.{Verdict}
use Rattle.engine_stages.specs.declared.verdicts.Verdict.TheVariants as verdict
use Rattle.engine_stages.specs.Reading.{ReadsNoMore, ReadsList}
use Rattle.engine_stages.specs.Reports.{too_many_arcs_line}
use Rattle.engine_stages.specs.Reporting.{IsReported}

-- it is done, and these bytes are a lexicon of the words, in the first format
pub record IsNewFile (words : List (List ℕ)) (v : Verdict) (bytes : List ℕ) : Type 0 where
  pub verdict_is : v ≡ verdict.Done
  pub built : IsBuiltOf words bytes

-- the rotated paths of the words have more labels than a file has arcs, and the report says so
pub record IsTooLarge (words : List (List ℕ)) (v : Verdict) (report : List ℕ) : Type 0 where
  pub many : HasManyLabels words
  pub reported : IsReported verdict.BadFile too_many_arcs_line v report

abbrev pub IsBuiltBy : (words : List (List ℕ)) → Verdict → List ℕ → Type 0
IsBuiltBy words v report = IsNewFile words v report ⊎ IsTooLarge words v report

-- What is answered on the bytes of a word list: its lexicon, or the line of a fault.
abbrev pub IsBuilt : (texts : List (List ℕ)) → Verdict → List ℕ → Type 0
IsBuilt = ReadsList (λ words. ReadsNoMore (IsBuiltBy words))
