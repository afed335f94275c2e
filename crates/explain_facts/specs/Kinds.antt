-- What holds of an event by its kind.
use Rattle.std.specs.Prelude.{ℕ, Bool, true, false, List}
use Rattle.ref_tiles.specs.declared.symbols.Symbol.{Symbol}
use Rattle.ref_board.specs.declared.directions.Dir.{Dir}
use Rattle.gcg_read.specs.declared.events.EventKind.{EventKind}
use Rattle.gcg_read.specs.declared.events.EventKind.TheVariants as kind

-- a property of a play, given where its text begins, its direction and its text; false for any other event
abbrev pub OfPlay : EventKind → (ℕ → Dir → List Symbol → Type 0) → Type 0
OfPlay (kind.Play at dir word) P = P at dir word
OfPlay other P = ⊥

-- a property of a last rack, given its tiles
abbrev pub OfLastRack : EventKind → (List ℕ → Type 0) → Type 0
OfLastRack (kind.LastRack tiles) P = P tiles
OfLastRack other P = ⊥

abbrev pub is_exchange : EventKind → Bool
is_exchange (kind.Exchange tiles) = true
is_exchange (kind.ExchangeUnknown n) = true
is_exchange other = false

abbrev pub is_withdrawal : EventKind → Bool
is_withdrawal kind.Withdraw = true
is_withdrawal other = false

abbrev pub is_challenge : EventKind → Bool
is_challenge kind.Challenge = true
is_challenge other = false
