-- The record that a first change makes, by a walk over it.
use Rattle.std.proofs.Common.{◌≡◌, ℕ, ◌+◌, ◌≤◌, List, length, Option, Some, None, ap, ◌∙◌, subst, arith}
use Rattle.ref_tiles.specs.declared.rulebook.Rules.{Rules}
use Rattle.gcg_read.specs.declared.events.Event.{Event}
use Rattle.game_corrections.specs.Corrections.{AreRenumbered}
use Rattle.game_walk.specs.declared.refusals.Stop.{Stop}
use Rattle.game_walk.specs.declared.walking.Walk.{Walk}
use Rattle.game_walk.specs.Refusals.{EndsAt}
use Rattle.game_walk.specs.Walks.{IsWalk}
use Rattle.repair_changes.specs.declared.slips.Change.{Change}
use Rattle.repair_changes.specs.Applied.{applied, lines_there}
use Rattle.repair_single.specs.OnSheet.{on_sheet}
use Rattle.repair_pairs.specs.Made.{IsMade}

renumbered_by : (rules : Rules) (list : List (List ℕ)) (written right : List Event) (end : ℕ) (stopped : Option Stop) → EndsAt rules list written right end stopped → AreRenumbered written right
renumbered_by rules list written right end None ends = ends.1.renumbered
renumbered_by rules list written right end (Some stop) ends = ends.stops.before.renumbered

pub is_made : (rules : Rules) (list : List (List ℕ)) (written changed right shown made : List Event) (change : Change) (walk : Walk) (lines : ℕ) → changed ≡ applied change written
    → IsWalk rules list changed right walk → shown ≡ right → made ≡ on_sheet change (applied change written) shown → lines ≡ lines_there change.slip
    → change.place + lines ≤ length walk.rows.items → IsMade rules list written change made
is_made rules list written changed right shown made change walk lines is walked same sheet many within =
    let rows = walked.rows.as_many in
    record {
      right = right;
      renumbered = subst (λ (es : List Event). AreRenumbered es right) is (renumbered_by rules list changed right walked.end walk.stopped walked.ends);
      allowed = λ place below. walked.allowed place (omega (arith, below, within, rows, many));
      sheet = sheet ∙ ap (on_sheet change (applied change written)) same;
    }
