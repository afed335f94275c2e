-- Whether the bytes of a file are the compiled lexicon of a word list, a GADDAG, and otherwise what is wrong with them.
use Rattle.std.specs.Prelude.{◌≡◌, ℕ, List, length, nat_lt, Option, Some, None, Result, Ok, Err, if◌then◌else◌}
use Rattle.lex_file.specs.declared.faults.FileFault.{FileFault}
use Rattle.lex_file.specs.declared.faults.FileFault.TheVariants as form
use Rattle.lex_file.specs.Formats.{most_file_bytes}
use Rattle.lex_file.specs.Shapes.{fault_of}
use Rattle.lex_check.specs.declared.checks.Mismatch.TheVariants as why
use Rattle.lex_check.specs.declared.pairs.Checked.{Checked}
use Rattle.lex_check.specs.Checks.{IsAgreed, IsMismatch}
use Rattle.engine_stages.specs.declared.decisions.Decision.{Decision}
use Rattle.engine_stages.specs.declared.lexicons.LexiconFault.{LexiconFault}
use Rattle.engine_stages.specs.declared.lexicons.LexiconFault.TheVariants as fault
use Rattle.engine_stages.specs.declared.verdicts.Verdict.TheVariants as verdict
use Rattle.engine_stages.specs.Reports.{bad_file_line}
use Rattle.engine_stages.specs.Reporting.{IsReported}

-- the most bytes of a lexicon file
abbrev pub most_lexicon_bytes : ℕ
most_lexicon_bytes = most_file_bytes

-- the first fault of the form of a file; that it has too many bytes comes before all others
unfoldable pub file_fault : List ℕ → Option FileFault
file_fault bytes = if nat_lt most_lexicon_bytes (length bytes) then Some form.Length else fault_of bytes

-- the bytes are a lexicon of the words: they have the form of one, its language is the rotated paths of the words, and
-- it states their number
pub record IsLexicon (words : List (List ℕ)) (bytes : List ℕ) : Type 0 where
  pub form : file_fault bytes ≡ None
  pub agreed : IsAgreed words bytes

-- What is wrong with the bytes: their form; if that has no fault, the first difference between their language and the
-- rotated paths of the words; and if there is none, the number of words.
abbrev pub IsFaultOf : (words : List (List ℕ)) → (bytes : List ℕ) → LexiconFault → Type 0
IsFaultOf words bytes (fault.Form first) = file_fault bytes ≡ Some first
IsFaultOf words bytes (fault.Missing path) = (file_fault bytes ≡ None) × IsMismatch words bytes (why.Missing path)
IsFaultOf words bytes (fault.Extra path) = (file_fault bytes ≡ None) × IsMismatch words bytes (why.Extra path)
IsFaultOf words bytes fault.WordCount = (file_fault bytes ≡ None) × IsMismatch words bytes why.WordCount

-- the bytes are not a lexicon of the words, and the report says what is wrong with them
pub record IsBadFile (words : List (List ℕ)) (bytes report : List ℕ) : Type 0 where
  pub unlike : IsLexicon words bytes → ⊥
  pub fault : LexiconFault
  pub fails : IsFaultOf words bytes fault
  pub reported : report ≡ bad_file_line fault

-- ---- how the functions report it

-- the verdict that names a fault
abbrev pub IsRefusedFile : LexiconFault → Decision → Type 0
IsRefusedFile fault d = IsReported verdict.BadFile (bad_file_line fault) d.verdict d.report.items

-- the same instead of a list and a lexicon
abbrev pub IsRefusedPair : LexiconFault → Result Checked Decision → Type 0
IsRefusedPair first (Ok pair) = ⊥
IsRefusedPair first (Err d) = IsRefusedFile first d
