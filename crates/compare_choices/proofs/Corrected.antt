-- What a walk that corrects says of the correction of a record.
use Rattle.std.proofs.Common.{◌≡◌, ℕ, List, Some, None, subst, sym, ◌∙◌, length}
use Rattle.ref_tiles.specs.declared.rulebook.Rules.{Rules}
use Rattle.gcg_read.specs.declared.events.Event.{Event}
use Rattle.game_corrections.specs.Corrections.{HavePoints}
use Rattle.game_walk.specs.declared.refusals.Stop.{Stop}
use Rattle.game_walk.specs.declared.walking.Walk.{Walk}
use Rattle.game_walk.specs.Refusals.{EndsAt, StopsThere}
use Rattle.game_walk.specs.Rows.{AreRowsTo, HaveRows}
use Rattle.game_walk.specs.Walks.{IsWalk}
use Rattle.compare_choices.specs.Choices.{IsRight}
use Rattle.compare_choices.specs.Corrected.{Stops}

stops_by : (rules : Rules) (list : List (List ℕ)) (written right : List Event) (end place : ℕ) (stop : Stop) → StopsThere rules list written right end stop → place ≡ end
    → Stops rules list written (record { place = place; refusal = stop.refusal })
stops_by rules list written right end place stop is many = record { right = right; at = is.stops; there = is.there ∙ sym many; none = λ other fits. is.none other fits.points fits.correction }

pub stops_where : (rules : Rules) (list : List (List ℕ)) (written right : List Event) (walk : Walk) (stop : Stop) (place : ℕ) → IsWalk rules list written right walk → walk.stopped ≡ Some stop
    → place ≡ length walk.rows.items → Stops rules list written (record { place = place; refusal = stop.refusal })
stops_where rules list written right walk stop place is some many =
    stops_by rules list written right is.end place stop (subst (EndsAt rules list written right is.end) some is.ends) (many ∙ is.rows.as_many)

pub right_where : (rules : Rules) (list : List (List ℕ)) (written right : List Event) (walk : Walk) → IsWalk rules list written right walk → walk.stopped ≡ None → HavePoints right
    → IsRight rules list written right
right_where rules list written right walk is none points = record { correction = (subst (EndsAt rules list written right is.end) none is.ends).1; points = points }

pub rows_where : (rules : Rules) (list : List (List ℕ)) (written right : List Event) (walk : Walk) → IsWalk rules list written right walk → walk.stopped ≡ None → HaveRows rules list right walk.rows.items
rows_where rules list written right walk is none =
    let ends = subst (EndsAt rules list written right is.end) none is.ends in
    record { written = written; are = subst (λ n. AreRowsTo rules list written right n walk.rows.items) (ends.0 ∙ sym ends.1.renumbered.as_many) is.rows }
