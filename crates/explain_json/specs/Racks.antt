-- Facts about tiles, racks and deals, as objects.
use Rattle.std.specs.Prelude.{ℕ, List, [], ◌∷◌, ◌++◌, codes, sum, Option, option_map}
use Rattle.json.specs.Json.{Json}
use Rattle.json_trees.specs.Values.{Field, count, field_if, object_of}
use Rattle.gcg_read.specs.declared.events.Seat.{Seat}
use Rattle.ref_tiles.specs.declared.kinds.Kind.{Kind}
use Rattle.explain_facts.specs.declared.facts.tiles.TileFact.{TileFact}
use Rattle.explain_facts.specs.declared.facts.tiles.TileFact.TheVariants as tiles
use Rattle.explain_facts.specs.declared.facts.racks.RackFact.{RackFact}
use Rattle.explain_facts.specs.declared.facts.racks.RackFact.TheVariants as rack
use Rattle.explain_facts.specs.declared.facts.racks.RackLine.{RackLine}
use Rattle.explain_facts.specs.declared.facts.racks.KindLine.{KindLine}
use Rattle.explain_facts.specs.declared.facts.deals.DealFact.{DealFact}
use Rattle.explain_facts.specs.declared.facts.deals.DealFact.TheVariants as deal
use Rattle.explain_facts.specs.declared.facts.deals.ClashLine.{ClashLine}
use Rattle.explain_facts.specs.declared.facts.deals.ExchangeLine.{ExchangeLine}
use Rattle.json_base.specs.Faults.{tile_value}
use Rattle.json_base.specs.Values.{tiles_value}
use Rattle.json_base.specs.Words.{player_number}
use Rattle.explain_json.specs.Lines.{clash_value, exchanges_value, kind_lines_value, rack_lines_value}
use Rattle.explain_json.specs.Parts.{named, numbers_value}
use Rattle.explain_json.specs.Turns.{line_object}

-- whose tiles they are, how many an event has, and how many the player has
abbrev pub held_object : (name : List ℕ) → Seat → (number has : ℕ) → Json
held_object name player number has = object_of (
    named name
    ∷ (codes "player", count (player_number player))
    ∷ (codes "number", count number)
    ∷ (codes "limit", count has)
    ∷ [])

-- how many tiles an exchange needs, and how many the bag has
abbrev pub bag_object : (bag least : ℕ) → Json
bag_object bag least = object_of (
    named (codes "ExchangeRefused")
    ∷ (codes "limit", count least)
    ∷ (codes "bag", count bag)
    ∷ [])

-- an exchange of more tiles than there are
abbrev pub exchange_size_object : (number : ℕ) → Seat → (has bag : ℕ) → Json
exchange_size_object number player has bag = object_of (
    named (codes "ExchangeSize")
    ∷ (codes "player", count (player_number player))
    ∷ (codes "number", count number)
    ∷ (codes "limit", count has)
    ∷ (codes "bag", count bag)
    ∷ [])

abbrev pub tile_object : TileFact → Json
tile_object (tiles.TooManyUsed player used has) = held_object (codes "TooManyUsed") player used has
tile_object (tiles.ExchangeRefused bag least) = bag_object bag least
tile_object (tiles.ExchangeSize number player has bag) = exchange_size_object number player has bag
tile_object (tiles.LastRackSize shown holder has) = held_object (codes "LastRackSize") holder shown has

-- the tiles that are left after a line, and the line that shows a whole rack without them
abbrev pub left_over_object : Seat → (before : ℕ) → (remaining : List ℕ) → (after : ℕ) → Kind → (has had : ℕ) → Json
left_over_object player before remaining after kind has had = object_of (
    named (codes "LeftOver")
    ∷ (codes "player", count (player_number player))
    ∷ (codes "tile", tile_value kind)
    ∷ (codes "rack", tiles_value remaining)
    ∷ (codes "number", count has)
    ∷ (codes "limit", count had)
    ∷ (codes "on_lines", numbers_value (before ∷ after ∷ []))
    ∷ [])

-- the tiles that a rack would have to hold, and what lines show of it
abbrev pub too_big_object : Seat → (size : ℕ) → (needed : List ℕ) → List RackLine → Json
too_big_object player size needed lines = object_of (
    named (codes "RackTooBig")
    ∷ (codes "player", count (player_number player))
    ∷ (codes "rack", tiles_value needed)
    ∷ (codes "number", count (sum needed))
    ∷ (codes "limit", count size)
    ∷ (codes "lines", rack_lines_value player lines)
    ∷ [])

-- where the tiles of a kind would have to be of which the game has too few
abbrev pub short_object : Kind → (all needed laid first second : ℕ) → List KindLine → Json
short_object kind all needed laid first second lines = object_of (
    named (codes "TilesShort")
    ∷ (codes "tile", tile_value kind)
    ∷ (codes "number", count needed)
    ∷ (codes "limit", count all)
    ∷ (codes "on_board", count laid)
    ∷ (codes "on_racks", numbers_value (first ∷ second ∷ []))
    ∷ (codes "lines", kind_lines_value lines)
    ∷ [])

abbrev pub rack_object : RackFact → Json
rack_object (rack.LeftOver player before remaining after kind has had) = left_over_object player before remaining after kind has had
rack_object (rack.TooBig player size needed lines) = too_big_object player size needed lines.items
rack_object (rack.TilesShort kind all needed laid first second lines) = short_object kind all needed laid first second lines.items

-- the tiles that cannot be together, if a proof was found, and the exchanges
abbrev pub no_deal_fields : (clash : Option (List ClashLine)) → List ExchangeLine → List Field
no_deal_fields clash exchanges =
    ((named (codes "NoDeal") ∷ []) ++ field_if (codes "clash") (option_map clash_value clash)) ++ (codes "lines", exchanges_value exchanges) ∷ []

abbrev pub no_deal_object : (clash : Option (List ClashLine)) → List ExchangeLine → Json
no_deal_object clash exchanges = object_of (no_deal_fields clash exchanges)

abbrev pub deal_object : DealFact → Json
deal_object (deal.DealtTo line) = line_object (codes "DealtTo") line
deal_object (deal.NoDeal clash exchanges) = no_deal_object (option_map (λ lines. lines.items) clash) exchanges.items
