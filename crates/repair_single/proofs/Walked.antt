-- The game before a place of a record that was walked over.
use Rattle.std.proofs.Common.{◌≡◌, ℕ, ◌+◌, ◌-◌, ◌<◌, List, slice_get, Option, Some, None, ap, ◌∙◌, arith}
use Rattle.std.proofs.lemmas.Option.{slice_get_within}
use Rattle.ref_tiles.specs.declared.rulebook.Rules.{Rules}
use Rattle.gcg_read.specs.declared.events.Event.{Event}
use Rattle.game_turns.specs.Tallies.{tally_at}
use Rattle.game_corrections.specs.Corrections.{AreRenumbered}
use Rattle.game_walk.specs.declared.refusals.Stop.{Stop}
use Rattle.game_walk.specs.declared.rows.Row.{Row}
use Rattle.game_walk.specs.declared.walking.Walk.{Walk}
use Rattle.game_walk.specs.Refusals.{EndsAt}
use Rattle.game_walk.specs.Walks.{IsWalkOf}
use Rattle.repair_single.specs.Trying.{StandsBefore}

pub renumbered_by : (rules : Rules) (list : List (List ℕ)) (written right : List Event) (end : ℕ) (stopped : Option Stop) → EndsAt rules list written right end stopped → AreRenumbered written right
renumbered_by rules list written right end None ends = ends.1.renumbered
renumbered_by rules list written right end (Some stop) ends = ends.stops.before.renumbered

pub first_game : (rules : Rules) (list : List (List ℕ)) (events : List Event) (walk : Walk) → IsWalkOf rules list events walk → StandsBefore rules list events 0 walk.start
first_game rules list events walk walked =
    let is = walked.is in
    record {
      front = walked.right;
      renumbered = renumbered_by rules list events walked.right is.end walk.stopped is.ends;
      allowed = λ k below. absurd (omega (arith, below));
      by = is.by;
      state = is.start;
    }

pub next_game : (rules : Rules) (list : List (List ℕ)) (events : List Event) (walk : Walk) (place : ℕ) (row : Row) → IsWalkOf rules list events walk → 0 < place
    → slice_get walk.rows.items (place - 1) ≡ Some row → StandsBefore rules list events place row.following
next_game rules list events walk place row walked some at =
    let is = walked.is in
    let here = is.rows.each (place - 1) row at in
    let within = slice_get_within walk.rows.items (place - 1) row at in
    let many = is.rows.as_many in
    let step : place - 1 + 1 ≡ place = omega (arith, some) in
    record {
      front = walked.right;
      renumbered = renumbered_by rules list events walked.right is.end walk.stopped is.ends;
      allowed = λ k below. is.allowed k (omega (arith, below, within, many, some));
      by = here.by;
      state = here.following ∙ ap (tally_at rules walked.right) step;
    }
