-- The words by which answers name players, events and directions.
use Rattle.std.specs.Prelude.{ℕ, List, codes}
use Rattle.ref_board.specs.declared.directions.Dir.{Dir}
use Rattle.ref_board.specs.declared.directions.Dir.TheVariants.{Across, Down}
use Rattle.gcg_read.specs.declared.events.Seat.{Seat}
use Rattle.gcg_read.specs.declared.events.Seat.TheVariants as seat
use Rattle.gcg_read.specs.declared.events.EventKind.{EventKind}
use Rattle.gcg_read.specs.declared.events.EventKind.TheVariants as kind

-- players are 1 and 2
abbrev pub player_number : Seat → ℕ
player_number seat.First = 1
player_number seat.Second = 2

-- what happened, by its name
abbrev pub kind_word : EventKind → List ℕ
kind_word (kind.Play at dir word) = codes "play"
kind_word kind.Pass = codes "pass"
kind_word (kind.Exchange tiles) = codes "exchange"
kind_word (kind.ExchangeUnknown number) = codes "exchange"
kind_word kind.Withdraw = codes "withdraw"
kind_word kind.Challenge = codes "challenge"
kind_word kind.Time = codes "time"
kind_word (kind.LastRack tiles) = codes "last rack"

abbrev pub direction_word : Dir → List ℕ
direction_word Across = codes "across"
direction_word Down = codes "down"
