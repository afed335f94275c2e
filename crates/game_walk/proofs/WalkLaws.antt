-- What a walk says about a record that it went through, and about the corrected one.
use Rattle.std.proofs.Common.{◌≡◌, ℕ, ◌+◌, List, length, slice_get, Option, Some, None, refl, sym, ap, ◌∙◌, subst}
use Rattle.ref_tiles.specs.declared.rulebook.Rules.{Rules}
use Rattle.gcg_read.specs.declared.events.Event.{Event}
use Rattle.game_turns.specs.Machines.{state_of}
use Rattle.game_turns.specs.Tallies.{tally_at}
use Rattle.game_walk.specs.declared.refusals.Stop.{Stop}
use Rattle.game_walk.specs.declared.rows.Row.{Row}
use Rattle.game_walk.specs.declared.walking.Walk.{Walk}
use Rattle.game_walk.specs.Refusals.{refusal_of, IsReportedRefusal, EndsAt}
use Rattle.game_walk.specs.Rows.{AreRowsTo}
use Rattle.game_walk.specs.Walks.{IsWalk, GoesThrough}

through : (rules : Rules) (list : List (List ℕ)) (written right : List Event) (end : ℕ) (walk : Walk) → end ≡ length right → state_of walk.start ≡ tally_at rules right 0
    → AreRowsTo rules list written right end walk.rows.items → GoesThrough rules list right walk
through rules list written right end walk all start rows =
    record { start = start; rows = record { written = written; are = subst (λ n. AreRowsTo rules list written right n walk.rows.items) all rows } }

all_right : (rules : Rules) (list : List (List ℕ)) (written right : List Event) (end : ℕ) (stopped : Option Stop) → stopped ≡ None → EndsAt rules list written right end stopped → end ≡ length right
all_right rules list written right end None none ends = ends.0 ∙ sym ends.1.renumbered.as_many
all_right rules list written right end (Some stop) none ends = cc

-- if the correction does not stop, the walk went through the corrected events
pub through_right : (rules : Rules) (list : List (List ℕ)) (written right : List Event) (walk : Walk) → IsWalk rules list written right walk → walk.stopped ≡ None → GoesThrough rules list right walk
through_right rules list written right walk is none =
    through rules list written right is.end walk (all_right rules list written right is.end walk.stopped none is.ends) is.start is.rows

-- if no event is refused, it went through the events as they are written
pub through_written : (rules : Rules) (list : List (List ℕ)) (written right : List Event) (walk : Walk) → IsWalk rules list written right walk → walk.refused ≡ None
    → GoesThrough rules list written walk
through_written rules list written right walk is none =
    let same = is.unchanged none in
    subst (λ (events : List Event). GoesThrough rules list events walk) same.0 (through_right rules list written right walk is same.1)

reported_right : (rules : Rules) (list : List (List ℕ)) (written right : List Event) (end : ℕ) (stopped : Option Stop) → EndsAt rules list written right end stopped
    → IsReportedRefusal rules list right (refusal_of stopped)
reported_right rules list written right end None ends = ends.1.allowed
reported_right rules list written right end (Some stop) ends =
    let at = ends.stops in
    record { place = at.place; event = at.event; stands = at.stands; on_line = at.on_line; fails = at.fails; earlier = at.before.allowed }

-- where the correction stops is the first refusal of the corrected events
pub refusal_right : (rules : Rules) (list : List (List ℕ)) (written right : List Event) (walk : Walk) → IsWalk rules list written right walk → IsReportedRefusal rules list right (refusal_of walk.stopped)
refusal_right rules list written right walk is = reported_right rules list written right is.end walk.stopped is.ends

none_stopped : (stopped : Option Stop) → refusal_of stopped ≡ None → stopped ≡ None
none_stopped None none = refl
none_stopped (Some stop) none = cc

pub through_unrefused : (rules : Rules) (list : List (List ℕ)) (written right : List Event) (walk : Walk) → IsWalk rules list written right walk → refusal_of walk.stopped ≡ None
    → GoesThrough rules list right walk
through_unrefused rules list written right walk is none = through_right rules list written right walk is (none_stopped walk.stopped none)

-- the game after the last row, or the start if there is none
pub end_of_rows : (rules : Rules) (list : List (List ℕ)) (events : List Event) (walk : Walk) (last : ℕ) (row : Row) → GoesThrough rules list events walk → slice_get walk.rows.items last ≡ Some row
    → last + 1 ≡ length walk.rows.items → state_of row.following ≡ tally_at rules events (length events)
end_of_rows rules list events walk last row goes there is_last =
    (goes.rows.are.each last row there).following ∙ ap (tally_at rules events) (is_last ∙ goes.rows.are.as_many)

pub end_of_none : (rules : Rules) (list : List (List ℕ)) (events : List Event) (walk : Walk) → GoesThrough rules list events walk → length walk.rows.items ≡ 0
    → state_of walk.start ≡ tally_at rules events (length events)
end_of_none rules list events walk goes none =
    goes.start ∙ ap (tally_at rules events) (sym none ∙ goes.rows.are.as_many)
