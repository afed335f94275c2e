-- A fact as an object: its name, and the fields that it has.
use Rattle.std.specs.Prelude.{List, map}
use Rattle.json.specs.Json.{Json}
use Rattle.json_trees.specs.Values.{array_of}
use Rattle.explain_facts.specs.declared.facts.Fact.{Fact}
use Rattle.explain_facts.specs.declared.facts.Fact.TheVariants as fact
use Rattle.explain_json.specs.Games.{game_object}
use Rattle.explain_json.specs.Plays.{play_object, reading_object}
use Rattle.explain_json.specs.Racks.{deal_object, rack_object, tile_object}
use Rattle.explain_json.specs.Scores.{challenge_object, score_object, total_object}
use Rattle.explain_json.specs.Turns.{order_object, ruling_object, turn_object}

abbrev pub fact_object : Fact → Json
fact_object (fact.Game it) = game_object it
fact_object (fact.Ruling it) = ruling_object it
fact_object (fact.Turn it) = turn_object it
fact_object (fact.Order it) = order_object it
fact_object (fact.Play it) = play_object it
fact_object (fact.Score it) = score_object it
fact_object (fact.Reading it) = reading_object it
fact_object (fact.Total it) = total_object it
fact_object (fact.Challenge it) = challenge_object it
fact_object (fact.Tile it) = tile_object it
fact_object (fact.Rack it) = rack_object it
fact_object (fact.Deal it) = deal_object it

-- in their order
abbrev pub facts_value : List Fact → Json
facts_value facts = array_of (map fact_object facts)
