use Rattle.std.proofs.Common.{◌≡◌, ◌≤◌, ℕ, List}
use Rattle.ref_tiles.specs.declared.rulebook.Rules.{Rules}
use Rattle.gcg_read.specs.declared.events.Event.{Event}
use Rattle.game_walk.specs.Rows.{HaveRows}
use Rattle.game_case.specs.Archiving.{unlisted_to}
use Rattle.compare_choices.proofs.corrections.unlisted_plays.Given as goal

abbrev pub invariant-loop-place : goal.invariant-loop-place
invariant-loop-place l =
    record {
      plays : (rules : Rules) (list : List (List ℕ)) (events : List Event) → HaveRows rules list events l.rows → l.plays ≡ unlisted_to rules list events l.place;
      few : l.plays ≤ l.place;
    }
