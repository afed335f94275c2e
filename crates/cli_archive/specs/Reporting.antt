-- What is reported on many games, once the rules, the words and the lexicon are read.
use Rattle.std.proofs.Common.{ℕ, List, [], ◌∷◌, Result, Ok, Err}
use Rattle.engine_stages.specs.declared.decisions.Decision.{Decision}
use Rattle.engine_stages.specs.declared.verdicts.Verdict.{Verdict}
use Rattle.engine_stages.specs.declared.verdicts.Verdict.TheVariants as verdict
use Rattle.engine_stages.specs.Reading.{ReadsNoMore}
use Rattle.engine_stages.specs.Reporting.{IsReported, IsLater}
use Rattle.cli_files.specs.laws.Later.{later_as}

-- nothing more is read, and many games are reported
abbrev pub AreGamesReported : {T : Type 0} → Result T Decision → (texts : List (List ℕ)) → Verdict → List ℕ → Type 0
AreGamesReported (Ok reported) texts v report = ReadsNoMore (IsReported verdict.Done []) texts v report
AreGamesReported (Err d) texts v report = ⊥

-- what is reported is not that an earlier input is bad
pub games_later : {T : Type 0} (x : Result T Decision) (texts : List (List ℕ)) (v : Verdict) (report : List ℕ) → AreGamesReported x texts v report → IsLater v
games_later (Ok reported) [] v report is = later_as v is.verdict_is
games_later (Ok reported) (text ∷ rest) v report is = absurd is
games_later (Err d) texts v report is = absurd is
