-- The events of a draft with right numbers, from a walk over them.
use Rattle.std.proofs.Common.{◌≡◌, ℕ, List, map, Option, Some, None, sym, ap, subst, ◌∙◌}
use Rattle.ref_tiles.specs.declared.rulebook.Rules.{Rules}
use Rattle.gcg_read.specs.declared.events.Event.{Event}
use Rattle.game_corrections.specs.Corrections.{AreRenumbered, KeepPoints}
use Rattle.game_walk.specs.declared.numbers.Numbers.{Numbers}
use Rattle.game_walk.specs.declared.refusals.Refusal.{Refusal}
use Rattle.game_walk.specs.declared.refusals.Stop.{Stop}
use Rattle.game_walk.specs.declared.walking.Walk.{Walk}
use Rattle.game_walk.specs.Numbers.{numbers_in, renumbered}
use Rattle.game_walk.specs.Refusals.{refusal_of, EndsAt}
use Rattle.game_walk.specs.Walks.{IsWalk}
use Rattle.gcg_drafts.specs.declared.missing.Missing.{Missing}
use Rattle.draft_answers.specs.Filling.{filled, filled_events}
use Rattle.draft_answers.specs.Filled.{IsRighted, AreFilled}

righted_by : (rules : Rules) (list : List (List ℕ)) (written right : List Event) (end : ℕ) (stopped : Option Stop) → EndsAt rules list written right end stopped
    → IsRighted rules list written right (refusal_of stopped)
righted_by rules list written right end None ends = ends.1
righted_by rules list written right end (Some stop) ends = ends.stops

pub righted : (rules : Rules) (list : List (List ℕ)) (written right : List Event) (walk : Walk) → IsWalk rules list written right walk → IsRighted rules list written right (refusal_of walk.stopped)
righted rules list written right walk is = righted_by rules list written right is.end walk.stopped is.ends

renumbered_of : (rules : Rules) (list : List (List ℕ)) (written right : List Event) (stopped : Option Refusal) → IsRighted rules list written right stopped → AreRenumbered written right
renumbered_of rules list written right None is = is.renumbered
renumbered_of rules list written right (Some refusal) is = is.before.renumbered

pub are_renumbered : (rules : Rules) (list : List (List ℕ)) (written right : List Event) (stopped : Option Refusal) → IsRighted rules list written right stopped → AreRenumbered written right
are_renumbered rules list written right stopped is = renumbered_of rules list written right stopped is

pub are_filled : (rules : Rules) (list : List (List ℕ)) (lacks : List Missing) (old right new : List Event) (walk : Walk) (written rights numbers : List Numbers) (stopped : Option Refusal)
    → IsWalk rules list old right walk → KeepPoints old right → written ≡ map numbers_in old → rights ≡ map numbers_in right → numbers ≡ filled lacks written rights
    → new ≡ renumbered right numbers → stopped ≡ refusal_of walk.stopped → AreFilled rules list lacks old new stopped
unfolding filled_events
are_filled rules list lacks old right new walk written rights numbers stopped is points of_written of_right of_numbers made stop =
    record {
      right = right;
      righted = subst (λ o. IsRighted rules list old right o) (sym stop) (righted rules list old right walk is);
      points = points;
      is = made ∙ ap (renumbered right) (of_numbers ∙ ap (λ l. filled lacks l rights) of_written ∙ ap (filled lacks (map numbers_in old)) of_right);
    }
