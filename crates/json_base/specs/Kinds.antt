-- What goes with the kind of an event.
use Rattle.json.specs.Json.{Json, null, string}
use Rattle.json_trees.specs.Values.{count}
use Rattle.gcg_read.specs.declared.events.EventKind.{EventKind}
use Rattle.gcg_read.specs.declared.events.EventKind.TheVariants as kind
use Rattle.json_base.specs.Words.{direction_word}
use Rattle.json_base.specs.Values.{place_value, symbols_value, tiles_value}

-- of a play where it begins
abbrev pub kind_place : EventKind → Json
kind_place (kind.Play at dir word) = place_value at dir
kind_place kind.Pass = null
kind_place (kind.Exchange tiles) = null
kind_place (kind.ExchangeUnknown number) = null
kind_place kind.Withdraw = null
kind_place kind.Challenge = null
kind_place kind.Time = null
kind_place (kind.LastRack tiles) = null

-- of a play whether it goes across or down
abbrev pub kind_direction : EventKind → Json
kind_direction (kind.Play at dir word) = string (direction_word dir)
kind_direction kind.Pass = null
kind_direction (kind.Exchange tiles) = null
kind_direction (kind.ExchangeUnknown number) = null
kind_direction kind.Withdraw = null
kind_direction kind.Challenge = null
kind_direction kind.Time = null
kind_direction (kind.LastRack tiles) = null

-- of a play its text
abbrev pub kind_symbols : EventKind → Json
kind_symbols (kind.Play at dir word) = symbols_value word
kind_symbols kind.Pass = null
kind_symbols (kind.Exchange tiles) = null
kind_symbols (kind.ExchangeUnknown number) = null
kind_symbols kind.Withdraw = null
kind_symbols kind.Challenge = null
kind_symbols kind.Time = null
kind_symbols (kind.LastRack tiles) = null

-- of an exchange or a last rack its tiles, as far as they are known
abbrev pub kind_tiles : EventKind → Json
kind_tiles (kind.Play at dir word) = null
kind_tiles kind.Pass = null
kind_tiles (kind.Exchange tiles) = tiles_value tiles
kind_tiles (kind.ExchangeUnknown number) = null
kind_tiles kind.Withdraw = null
kind_tiles kind.Challenge = null
kind_tiles kind.Time = null
kind_tiles (kind.LastRack tiles) = tiles_value tiles

-- of an exchange whose tiles are not known how many they are
abbrev pub kind_number : EventKind → Json
kind_number (kind.Play at dir word) = null
kind_number kind.Pass = null
kind_number (kind.Exchange tiles) = null
kind_number (kind.ExchangeUnknown number) = count number
kind_number kind.Withdraw = null
kind_number kind.Challenge = null
kind_number kind.Time = null
kind_number (kind.LastRack tiles) = null
