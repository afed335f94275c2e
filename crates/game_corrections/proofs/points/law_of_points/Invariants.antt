use Rattle.std.proofs.Common.{◌≡◌, ℕ, ◌<◌, slice_get, Some}
use Rattle.gcg_read.specs.declared.events.Event.{Event}
use Rattle.game_corrections.specs.Corrections.{HasPoints}
use Rattle.game_corrections.proofs.points.law_of_points.Given as goal

abbrev pub invariant-loop-event : goal.invariant-loop-event
invariant-loop-event l = (k : ℕ) (e : Event) → k < l.event-index → slice_get l.events k ≡ Some e → HasPoints e
