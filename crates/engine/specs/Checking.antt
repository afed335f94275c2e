-- The answers about checking a lexicon file by a word list.
use Rattle.std.specs.Prelude.{ℕ, List, length}
use Rattle.engine_stages.specs.declared.verdicts.Verdict.{Verdict}
use Rattle.engine_stages.specs.declared.verdicts.Verdict.TheVariants as verdict
use Rattle.engine_stages.specs.Reading.{ReadsNoMore, ReadsList, ReadsLexicon}
use Rattle.engine_stages.specs.Reports.{ok_line}
use Rattle.engine_stages.specs.Reporting.{IsReported}

-- What is answered on the bytes of a word list and of a lexicon file: that it is done and the number of the words, exactly
-- if the words are a list and the file is its lexicon; otherwise the line of the first fault.
abbrev pub IsChecked : (texts : List (List ℕ)) → Verdict → List ℕ → Type 0
IsChecked = ReadsList (λ words. ReadsLexicon words (ReadsNoMore (IsReported verdict.Done (ok_line (length words)))))
