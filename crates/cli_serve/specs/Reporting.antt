-- What is reported on requests, once the rules, the words and the lexicon are read.
use Rattle.std.proofs.Common.{ℕ, List, [], ◌∷◌, Result, Ok, Err}
use Rattle.engine_stages.specs.declared.decisions.Decision.{Decision}
use Rattle.engine_stages.specs.declared.verdicts.Verdict.{Verdict}
use Rattle.engine_stages.specs.declared.verdicts.Verdict.TheVariants as verdict
use Rattle.engine_stages.specs.Reading.{ReadsNoMore}
use Rattle.engine_stages.specs.Reporting.{IsReported, IsLater}
use Rattle.cli_files.specs.laws.Later.{later_as}

-- nothing more of the inputs is read, and requests are answered
abbrev pub AreServed : {T : Type 0} → Result T Decision → (texts : List (List ℕ)) → Verdict → List ℕ → Type 0
AreServed (Ok reported) texts v report = ReadsNoMore (IsReported verdict.Done []) texts v report
AreServed (Err d) texts v report = ⊥

-- what is reported is not that an earlier input is bad
pub served_later : {T : Type 0} (x : Result T Decision) (texts : List (List ℕ)) (v : Verdict) (report : List ℕ) → AreServed x texts v report → IsLater v
served_later (Ok reported) [] v report is = later_as v is.verdict_is
served_later (Ok reported) (text ∷ rest) v report is = absurd is
served_later (Err d) texts v report is = absurd is
