-- Records without exchanges.
use Rattle.std.specs.Prelude.{◌≡◌, Bool, true, false, List, [], ◌∷◌}
use Rattle.gcg_read.specs.declared.events.Event.{Event}
use Rattle.gcg_read.specs.declared.events.EventKind.{EventKind}
use Rattle.gcg_read.specs.declared.events.EventKind.TheVariants as kind

abbrev pub is_exchange : EventKind → Bool
is_exchange (kind.Exchange tiles) = true
is_exchange (kind.ExchangeUnknown n) = true
is_exchange other = false

-- no event of a record is an exchange of either kind
abbrev pub HaveNoExchange : List Event → Type 0
HaveNoExchange [] = Unit {0}
HaveNoExchange (e ∷ events) = (is_exchange e.kind ≡ false) × HaveNoExchange events
