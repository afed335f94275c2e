-- The answers about converting a compiled lexicon file into a format.
use Rattle.std.specs.Prelude.{◌≡◌, ◌⊎◌, ℕ, ◌<◌, List, [], ◌∷◌, Some, None}
use Rattle.lex_file.specs.declared.faults.FileFault.{FileFault}
use Rattle.lex_file.specs.declared.formats.Format.{Format}
use Rattle.lex_check.specs.Checks.{IsLexiconOf}
use Rattle.lex_build.specs.Converts.{IsConverted, words_in_format}
use Rattle.lex_build.specs.Stores.{limit_of}
use Rattle.engine_stages.specs.declared.lexicons.LexiconFault.TheVariants as fault
use Rattle.engine_stages.specs.declared.verdicts.Verdict.{Verdict}
use Rattle.engine_stages.specs.declared.verdicts.Verdict.TheVariants as verdict
use Rattle.engine_stages.specs.Lexicons.{file_fault}
use Rattle.engine_stages.specs.Reading.{ReadsNoMore, ReadsNext}
use Rattle.engine_stages.specs.Reports.{bad_file_line, too_many_arcs_line}
use Rattle.engine_stages.specs.Reporting.{IsReported}

-- the file has the form of a lexicon, and these bytes are it in the format: the same nodes, language and number of words
pub record IsNewFormat (format : Format) (lexicon : List ℕ) (v : Verdict) (bytes : List ℕ) : Type 0 where
  pub verdict_is : v ≡ verdict.Done
  pub form : file_fault lexicon ≡ None
  pub converted : IsConverted format lexicon bytes

-- the file does not have the form of a lexicon, and the report gives its first fault
pub record IsMalformed (lexicon : List ℕ) (v : Verdict) (report : List ℕ) : Type 0 where
  pub first : FileFault
  pub fails : file_fault lexicon ≡ Some first
  pub reported : IsReported verdict.BadFile (bad_file_line (fault.Form first)) v report

-- the file has the form of a lexicon, its nodes take more words than the format can number, and the report says so
pub record IsPastLimit (format : Format) (lexicon : List ℕ) (v : Verdict) (report : List ℕ) : Type 0 where
  pub form : file_fault lexicon ≡ None
  pub many : limit_of format < words_in_format format lexicon
  pub reported : IsReported verdict.BadFile too_many_arcs_line v report

abbrev pub IsConvertedBy : Format → (lexicon : List ℕ) → Verdict → List ℕ → Type 0
IsConvertedBy format lexicon v report = IsNewFormat format lexicon v report ⊎ IsMalformed lexicon v report ⊎ IsPastLimit format lexicon v report

-- What is answered on the bytes of a lexicon file: that it is done and the converted file, exactly if the file has the form of
-- a lexicon and its nodes fit the format; otherwise the line of a fault: of the form, or that there are too many arcs.
abbrev pub IsConvertedFile : Format → (texts : List (List ℕ)) → Verdict → List ℕ → Type 0
IsConvertedFile format = ReadsNext (λ lexicon. ReadsNoMore (IsConvertedBy format lexicon))

-- What conversion makes of the lexicon of a list is the lexicon of that list.
abbrev pub StaysLexicon : Type 0
StaysLexicon =
    (format : Format) (words : List (List ℕ)) (lexicon bytes : List ℕ) → IsConvertedFile format (lexicon ∷ []) verdict.Done bytes → IsLexiconOf words lexicon
    → IsLexiconOf words bytes
