use Rattle.std.proofs.Common.{◌≡◌, ◌≤◌, ℕ, List}
use Rattle.ref_tiles.specs.declared.rulebook.Rules.{Rules}
use Rattle.gcg_read.specs.declared.events.Event.{Event}
use Rattle.game_turns.specs.Tallies.{tally_at}
use Rattle.game_walk.specs.Walks.{IsWalk}
use Rattle.draft_answers.proofs.next.turn_at.Given as goal

abbrev pub invariant-loop-end : goal.invariant-loop-end
invariant-loop-end l =
    (l.end ≤ l.place) × ((rules : Rules) (list : List (List ℕ)) (written : List Event) → IsWalk rules list written l.events l.walk
    → (tally_at rules l.events l.place).mover ≡ (tally_at rules l.events l.end).mover)

abbrev pub decreases-loop-end : goal.decreases-loop-end
decreases-loop-end l = l.end
