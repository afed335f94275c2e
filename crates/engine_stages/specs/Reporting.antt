-- A verdict that is given with a certain text.
use Rattle.std.specs.Prelude.{◌≡◌, ◌≢◌, ℕ, List}
use Rattle.engine_stages.specs.declared.verdicts.Verdict.{Verdict}
use Rattle.engine_stages.specs.declared.verdicts.Verdict.TheVariants as verdict

-- this verdict is given, and the report has these bytes
pub record IsReported (what : Verdict) (text : List ℕ) (v : Verdict) (bytes : List ℕ) : Type 0 where
  pub verdict_is : v ≡ what
  pub reported : bytes ≡ text

-- a verdict does not say that an input is bad
pub record IsOwn (v : Verdict) : Type 0 where
  pub rules : v ≢ verdict.BadRules
  pub words : v ≢ verdict.BadList
  pub lexicon : v ≢ verdict.BadFile
  pub game : v ≢ verdict.BadRecord

-- A verdict does not say that an input is bad that is read before anything is asked: a rules text, a word list, a lexicon.
pub record IsLater (v : Verdict) : Type 0 where
  pub rules : v ≢ verdict.BadRules
  pub words : v ≢ verdict.BadList
  pub lexicon : v ≢ verdict.BadFile
