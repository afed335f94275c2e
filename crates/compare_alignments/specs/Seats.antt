-- Events with their players in the other order.
use Rattle.gcg_read.specs.Players.{other_seat}
use Rattle.gcg_read.specs.declared.events.Event.{Event}

-- the event, of the other player
abbrev pub in_other_seat : Event → Event
in_other_seat e = record e { player = other_seat e.player }
