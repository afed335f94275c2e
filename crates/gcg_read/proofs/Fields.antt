-- Lines with too few fields.
use Rattle.std.proofs.Common.{◌≡◌, ◌<◌, arith, ℕ, List, [], ◌∷◌, length, Err, refl}
use Rattle.gcg_read.specs.declared.event_lines.Heading.{Heading}
use Rattle.gcg_read.specs.declared.faults.Why.TheVariants as why
use Rattle.gcg_read.specs.EventLines.{event_of}

-- fewer than three fields are not an event
pub too_few : (heading : Heading) (fields : List (List ℕ)) → length fields < 3 → event_of heading fields ≡ Err why.Fields
unfolding event_of
too_few heading [] few = refl
too_few heading (a ∷ []) few = refl
too_few heading (a ∷ b ∷ []) few = refl
too_few heading (a ∷ b ∷ c ∷ fields) few = absurd (omega arith)
