-- The numbers of events.
use Rattle.std.specs.Prelude.{List, [], ◌∷◌}
use Rattle.gcg_read.specs.declared.events.Event.{Event}
use Rattle.game_walk.specs.declared.numbers.Numbers.{Numbers}

-- the score and the total of an event
abbrev pub numbers_in : Event → Numbers
numbers_in e = record { score = e.score; total = e.total }

-- an event with these numbers
abbrev pub with_numbers : Event → Numbers → Event
with_numbers e n = record e { score = n.score; total = n.total }

-- events with these numbers, in order; those for which there are none stay as they are
abbrev pub renumbered : List Event → List Numbers → List Event
renumbered [] numbers = []
renumbered (e ∷ events) [] = e ∷ events
renumbered (e ∷ events) (n ∷ numbers) = with_numbers e n ∷ renumbered events numbers
