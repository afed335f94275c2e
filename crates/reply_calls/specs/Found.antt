-- What is found of the sheets that a call reads.
use Rattle.std.specs.Prelude.{ℕ, List, [], ◌∷◌, ◌++◌, Result, Ok, Err}
use Rattle.engine_stages.specs.declared.decisions.Decision.{Decision}
use Rattle.engine_stages.specs.declared.verdicts.Verdict.{Verdict}
use Rattle.engine_stages.specs.declared.verdicts.Verdict.TheVariants as verdict
use Rattle.engine_stages.specs.Reading.{ReadsNoMore, ReadsNext}
use Rattle.engine_stages.specs.Reporting.{IsReported}

-- what is found once all sheets are read: a reply on their bytes, of which no report is made yet
abbrev pub IsFoundOn : {A : Type 0} → (IsReply : (texts : List (List ℕ)) → A → Type 0) → Result A Decision → (texts : List (List ℕ)) → Verdict → List ℕ → Type 0
IsFoundOn IsReply (Ok reply) texts v report = IsReply texts reply × IsReported verdict.Done [] v report
IsFoundOn IsReply (Err d) texts v report = ⊥

-- the same once the sheets are read that are left after these
abbrev pub IsFoundAfter : {A : Type 0} → (IsReply : (texts : List (List ℕ)) → A → Type 0) → (before : List (List ℕ)) → Result A Decision → (texts : List (List ℕ)) → Verdict → List ℕ → Type 0
IsFoundAfter IsReply before found texts v report = IsFoundOn IsReply found (before ++ texts) v report

-- what is found once the one sheet is read
abbrev pub IsFoundOnOne : {A : Type 0} → (IsReply : (text : List ℕ) → A → Type 0) → Result A Decision → (texts : List (List ℕ)) → Verdict → List ℕ → Type 0
IsFoundOnOne IsReply (Ok reply) texts v report = ReadsNext (λ text. ReadsNoMore (λ w said. IsReply text reply × IsReported verdict.Done [] w said)) texts v report
IsFoundOnOne IsReply (Err d) texts v report = ⊥
