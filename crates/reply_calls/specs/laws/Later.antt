-- Nothing that is found of sheets says that an input that is read before them is bad, and sheets that are not read are not touched: lemmas for the laws of
-- the question.
use Rattle.std.proofs.Common.{◌≡◌, refl, sym, subst, ℕ, List, [], ◌∷◌, Result, Ok, Err}
use Rattle.io_devices.specs.Devices.{Device}
use Rattle.engine_stages.specs.declared.decisions.Decision.{Decision}
use Rattle.engine_stages.specs.declared.verdicts.Verdict.{Verdict}
use Rattle.engine_stages.specs.declared.verdicts.Verdict.TheVariants as verdict
use Rattle.engine_stages.specs.Reporting.{IsLater}
use Rattle.engine_stages.specs.Sources.{AreUntouched}
use Rattle.reply_calls.specs.Found.{IsFoundOn}
use Rattle.reply_calls.specs.Sheets.{sheet_sources}

done_later : IsLater verdict.Done
done_later = record { rules = λ bad. cc; words = λ bad. cc; lexicon = λ bad. cc }

pub later_as : (v : Verdict) → v ≡ verdict.Done → IsLater v
later_as v is = subst IsLater (sym is) done_later

pub found_later : {A : Type 0} (IsReply : (texts : List (List ℕ)) → A → Type 0) (found : Result A Decision) (texts : List (List ℕ)) (v : Verdict) (report : List ℕ)
    → IsFoundOn IsReply found texts v report → IsLater v
found_later IsReply (Ok reply) texts v report is = later_as v is.1.verdict_is
found_later IsReply (Err d) texts v report is = absurd is

pub still_sheets : (devices : List Device) → AreUntouched (sheet_sources devices devices)
still_sheets [] = tt
still_sheets (device ∷ devices) = (refl, still_sheets devices)
