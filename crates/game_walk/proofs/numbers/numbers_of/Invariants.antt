use Rattle.std.proofs.Common.{◌≡◌, map, take}
use Rattle.game_walk.specs.Numbers.{numbers_in}
use Rattle.game_walk.proofs.numbers.numbers_of.Given as goal

abbrev pub invariant-loop-event : goal.invariant-loop-event
invariant-loop-event l = l.numbers.items ≡ map numbers_in (take l.event-index l.events)
