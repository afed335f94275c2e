use Rattle.std.proofs.Common.{◌≡◌, ◌≤◌, ◌*◌, ◌^◌}
use Rattle.repair_answers.specs.Tried.{count_before}
use Rattle.repair_answers.proofs.lists.count_before.Given as goal

abbrev pub invariant-loop-place : goal.invariant-loop-place
invariant-loop-place l = record { so_far : l.many ≡ count_before l.rules l.events l.place; few : l.many ≤ l.place * 2 ^ 64 }
