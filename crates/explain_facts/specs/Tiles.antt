-- How many tiles an event needs, and how many there are.
use Rattle.std.specs.Prelude.{◌≡◌, ◌≢◌, ◌⊎◌, ℕ, ◌<◌, true, sum, Option, Some, None}
use Rattle.gcg_read.specs.declared.events.Seat.{Seat}
use Rattle.gcg_read.specs.declared.events.EventKind.{EventKind}
use Rattle.gcg_read.specs.declared.events.EventKind.TheVariants as kind
use Rattle.gcg_read.specs.Players.{other_seat}
use Rattle.game_turns.specs.Seats.{side_of}
use Rattle.explain_clues.specs.Texts.{new_tiles}
use Rattle.explain_facts.specs.declared.facts.tiles.TileFact.{TileFact}
use Rattle.explain_facts.specs.declared.facts.tiles.TileFact.TheVariants as tile_fact
use Rattle.explain_facts.specs.Moments.{Moment}
use Rattle.explain_facts.specs.Kinds.{OfPlay, OfLastRack, is_exchange}

-- the number of tiles that an event exchanges
abbrev pub exchanged : EventKind → ℕ
exchanged (kind.Exchange tiles) = sum tiles
exchanged (kind.ExchangeUnknown n) = n
exchanged other = 0

-- whose last rack an event shows: the other player's once a player is out, otherwise its own player's
abbrev pub holder_by : (out : Option Seat) → Seat → Seat
holder_by None player = player
holder_by (Some out) player = other_seat out

abbrev pub holder_at : Moment → Seat
holder_at m = holder_by m.before.out m.event.player

-- what each fact about the number of tiles says is true at the moment
abbrev pub IsTileTrue : Moment → TileFact → Type 0
IsTileTrue m (tile_fact.TooManyUsed player used has) =
    (player ≡ m.event.player) × (has ≡ (side_of m.before.sides player).rack)
    × OfPlay m.event.kind (λ at dir word. (new_tiles m.before.board dir at word ≡ Some used) × (has < used))
IsTileTrue m (tile_fact.ExchangeRefused bag least) =
    (is_exchange m.event.kind ≡ true) × (bag ≡ m.before.bag) × (least ≡ m.rules.exchange_min) × (bag < least)
IsTileTrue m (tile_fact.ExchangeSize tiles player has bag) =
    (is_exchange m.event.kind ≡ true) × (tiles ≡ exchanged m.event.kind) × (player ≡ m.event.player) × (has ≡ (side_of m.before.sides player).rack)
    × (bag ≡ m.before.bag) × ((has < tiles) ⊎ (bag < tiles))
IsTileTrue m (tile_fact.LastRackSize shown holder has) =
    (holder ≡ holder_at m) × (has ≡ (side_of m.before.sides holder).rack) × OfLastRack m.event.kind (λ tiles. (shown ≡ sum tiles) × (shown ≢ has))
