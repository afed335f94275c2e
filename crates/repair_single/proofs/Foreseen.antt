-- An event with another total is the same event, renumbered.
use Rattle.std.proofs.Common.{◌≡◌, ℕ, ℤ, List, slice_get, Option, Some, None, refl, sym, subst}
use Rattle.std.specs.Prelude.{slice_set}
use Rattle.gcg_read.specs.declared.events.Event.{Event}
use Rattle.game_corrections.specs.Corrections.{IsRenumbered}
use Rattle.game_corrections.specs.Mending.{IsMendedAt}
use Rattle.game_corrections.proofs.Mends.{unchanged, one_set}

foreseen_at : (events new : List Event) (place : ℕ) (total : ℤ) (o : Option Event) → slice_get events place ≡ o
    → ((e : Event) → slice_get events place ≡ Some e → new ≡ slice_set events place (record e { total = total })) → (slice_get events place ≡ None → new ≡ events) → IsMendedAt events new place
foreseen_at events new place total None is there past = subst (λ (es : List Event). IsMendedAt events es place) (sym (past is)) (unchanged events place)
foreseen_at events new place total (Some e) is there past =
    let x : Event = record e { total = total } in
    let like : IsRenumbered e x = record { line = refl; player = refl; rack = refl; kind = refl; given = λ given. refl } in
    subst (λ (es : List Event). IsMendedAt events es place) (sym (there e is)) (one_set events place e x is like)

pub foreseen : (events new : List Event) (place : ℕ) (total : ℤ) → ((e : Event) → slice_get events place ≡ Some e → new ≡ slice_set events place (record e { total = total }))
    → (slice_get events place ≡ None → new ≡ events) → IsMendedAt events new place
foreseen events new place total there past = foreseen_at events new place total (slice_get events place) refl there past
