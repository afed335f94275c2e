use Rattle.std.proofs.Common.{◌≡◌, take}
use Rattle.game_walk.specs.Numbers.{renumbered}
use Rattle.game_walk.proofs.numbers.renumber.Given as goal

abbrev pub invariant-loop-place : goal.invariant-loop-place
invariant-loop-place l = l.events ≡ renumbered l.initial.events (take l.place l.numbers)
