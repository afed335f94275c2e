-- The last event of a record.
use Rattle.std.proofs.Common.{◌≡◌, suc, ◌-◌, List, [], ◌∷◌, length, slice_get, Some, None, refl, sym, ap, ◌∙◌, arith}
use Rattle.std.proofs.lemmas.Option.{same_Some}
use Rattle.gcg_read.specs.declared.events.Event.{Event}
use Rattle.repair_changes.specs.Spots.{last_line}

pub last_there : (events : List Event) (e : Event) → slice_get events (length events - 1) ≡ Some e → e.line ≡ last_line events
last_there [] e at = cc
last_there (a ∷ []) e at = ap (λ (x : Event). x.line) (sym (same_Some a e at))
last_there (a ∷ b ∷ events) e at =
    let step : suc (length (b ∷ events) - 1) ≡ length (a ∷ b ∷ events) - 1 = omega arith in
    last_there (b ∷ events) e (ap (slice_get (a ∷ b ∷ events)) step ∙ at)

pub last_none : (events : List Event) → slice_get events (length events - 1) ≡ None → 0 ≡ last_line events
last_none [] none = refl
last_none (a ∷ []) none = cc
last_none (a ∷ b ∷ events) none =
    let step : suc (length (b ∷ events) - 1) ≡ length (a ∷ b ∷ events) - 1 = omega arith in
    last_none (b ∷ events) (ap (slice_get (a ∷ b ∷ events)) step ∙ none)
