-- What lines show of racks, as objects.
use Rattle.std.specs.Prelude.{List, [], ◌∷◌, ◌++◌, codes, map, Option, Some, None}
use Rattle.json.specs.Json.{Json}
use Rattle.json_trees.specs.Values.{Field, array_of, count, field_if, object_of}
use Rattle.gcg_read.specs.declared.events.Seat.{Seat}
use Rattle.explain_facts.specs.declared.facts.racks.Leaving.{Leaving}
use Rattle.explain_facts.specs.declared.facts.racks.Leaving.TheVariants as leaving
use Rattle.explain_facts.specs.declared.facts.racks.RackLine.{RackLine}
use Rattle.explain_facts.specs.declared.facts.racks.KindLine.{KindLine}
use Rattle.explain_facts.specs.declared.facts.deals.ClashLine.{ClashLine}
use Rattle.explain_facts.specs.declared.facts.deals.ExchangeLine.{ExchangeLine}
use Rattle.explain_facts.specs.declared.facts.games.RackPart.{RackPart}
use Rattle.json_base.specs.Values.{tiles_value}
use Rattle.json_base.specs.Words.{player_number}

-- the tiles that a line plays of a rack, or exchanges
abbrev pub played_of : Leaving → Option Json
played_of leaving.Nothing = None
played_of (leaving.Plays tiles) = Some (tiles_value tiles)
played_of (leaving.Exchanges tiles) = None

abbrev pub exchanged_of : Leaving → Option Json
exchanged_of leaving.Nothing = None
exchanged_of (leaving.Plays tiles) = None
exchanged_of (leaving.Exchanges tiles) = Some (tiles_value tiles)

-- what a line shows of a player's rack
abbrev pub rack_line_fields : Seat → RackLine → List Field
rack_line_fields player line =
    (((codes "line", count line.line)
    ∷ (codes "player", count (player_number player))
    ∷ (codes "shown", tiles_value line.shown)
    ∷ []) ++ field_if (codes "played") (played_of line.leaves)) ++ field_if (codes "exchanged") (exchanged_of line.leaves)

abbrev pub rack_line_object : Seat → RackLine → Json
rack_line_object player line = object_of (rack_line_fields player line)

abbrev pub rack_lines_value : Seat → List RackLine → Json
rack_lines_value player lines = array_of (map (rack_line_object player) lines)

-- some tiles that a line shows of a rack
abbrev pub clash_fields : ClashLine → List Field
clash_fields line =
    (codes "line", count line.line)
    ∷ (codes "player", count (player_number line.player))
    ∷ (codes "shown", tiles_value line.tiles)
    ∷ []

abbrev pub clash_object : ClashLine → Json
clash_object line = object_of (clash_fields line)

abbrev pub clash_value : List ClashLine → Json
clash_value lines = array_of (map clash_object lines)

-- how many tiles of a kind a line shows, and how many it plays
abbrev pub kind_line_fields : KindLine → List Field
kind_line_fields line =
    (codes "line", count line.line)
    ∷ (codes "player", count (player_number line.player))
    ∷ (codes "number_shown", count line.shown)
    ∷ (codes "number_played", count line.played)
    ∷ []

abbrev pub kind_line_object : KindLine → Json
kind_line_object line = object_of (kind_line_fields line)

abbrev pub kind_lines_value : List KindLine → Json
kind_lines_value lines = array_of (map kind_line_object lines)

-- a rack that is shown in part: how many tiles are shown, and how many the player has
abbrev pub part_fields : RackPart → List Field
part_fields part =
    (codes "line", count part.line)
    ∷ (codes "player", count (player_number part.player))
    ∷ (codes "number_shown", count part.shown)
    ∷ (codes "number_held", count part.has)
    ∷ []

abbrev pub part_object : RackPart → Json
part_object part = object_of (part_fields part)

abbrev pub parts_value : List RackPart → Json
parts_value parts = array_of (map part_object parts)

-- an exchange: how many tiles
abbrev pub exchange_fields : ExchangeLine → List Field
exchange_fields line =
    (codes "line", count line.line)
    ∷ (codes "player", count (player_number line.player))
    ∷ (codes "number_exchanged", count line.tiles)
    ∷ []

abbrev pub exchange_object : ExchangeLine → Json
exchange_object line = object_of (exchange_fields line)

abbrev pub exchanges_value : List ExchangeLine → Json
exchanges_value lines = array_of (map exchange_object lines)
