use Rattle.std.proofs.Common.{◌≡◌, ◌⊎◌, inl, inr, ℕ, ◌+◌, ◌<◌, ◌≤◌, List, length, get_or, slice_get, Some, sym, ap, ◌∙◌, subst, arith}
use Rattle.std.proofs.lemmas.Bool.{cases_lt}
use Rattle.std.proofs.lemmas.Option.{same_Some, slice_get-get_or, slice_get_within}
use Rattle.gcg_read.specs.declared.events.Event.{Event}
use Rattle.game_corrections.specs.Corrections.{HasPoints}
use Rattle.game_corrections.proofs.points.law_of_points.Goals as goal

points_here : (events : List Event) (i k : ℕ) (d e : Event) → i < length events → d ≡ get_or events i d → HasPoints d → k ≡ i → slice_get events k ≡ Some e → HasPoints e
points_here events i k d e within is has same at =
    subst HasPoints (same_Some d e (ap Some is ∙ sym (slice_get-get_or events i d within) ∙ ap (slice_get events) (sym same) ∙ at)) has

points_by : (events : List Event) (i k : ℕ) (d e : Event) → ((k : ℕ) (e : Event) → k < i → slice_get events k ≡ Some e → HasPoints e) → i < length events → d ≡ get_or events i d
    → HasPoints d → k < i + 1 → slice_get events k ≡ Some e → (k < i) ⊎ (i ≤ k) → HasPoints e
points_by events i k d e so_far within is has below at (inl before) = so_far k e before at
points_by events i k d e so_far within is has below at (inr following) = points_here events i k d e within is has (omega (arith, below, following)) at

pub loop-event-preserved : goal.loop-event-preserved
loop-event-preserved c =
    λ k e below at.
    points_by c.args.events.now c.loop-event.event-index k c.event-item.result e c.loop-event.invariant c.loop-event-test.true c.event-item.is
    (record { score = c.value-score.ensures.in_range; total = c.value-total.ensures.in_range }) below at (cases_lt k c.loop-event.event-index)

pub returns : goal.returns
returns c =
    λ place e at.
    let within = slice_get_within c.args.events.now place e at in
    c.loop-event.invariant place e (omega arith) at
