-- What is said once all is done is not that an input that was read before is bad.
use Rattle.std.proofs.Common.{◌≡◌, sym, subst}
use Rattle.engine_stages.specs.declared.verdicts.Verdict.{Verdict}
use Rattle.engine_stages.specs.declared.verdicts.Verdict.TheVariants as verdict
use Rattle.engine_stages.specs.Reporting.{IsLater}

done_later : IsLater verdict.Done
done_later = record { rules = λ bad. cc; words = λ bad. cc; lexicon = λ bad. cc }

pub later_as : (v : Verdict) → v ≡ verdict.Done → IsLater v
later_as v is = subst IsLater (sym is) done_later
