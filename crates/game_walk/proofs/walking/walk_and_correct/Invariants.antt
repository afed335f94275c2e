use Rattle.game_walk.proofs.Steps.{IsUnderWay}
use Rattle.game_walk.proofs.walking.walk_and_correct.Given as goal

abbrev pub invariant-loop-place : goal.invariant-loop-place
invariant-loop-place l = record { under : IsUnderWay l.rules l.list l.initial.events l.events l.place l.machine l.rows.items l.refused }
