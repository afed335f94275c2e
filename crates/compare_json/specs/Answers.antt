-- What is found of two sheets, as an object.
use Rattle.std.specs.Prelude.{List, [], ◌∷◌, codes, map, Option, Some, None, option_map, Result, Ok, Err}
use Rattle.json.specs.Json.{Json, boolean, null, string}
use Rattle.json_trees.specs.Values.{Field, array_of, count, integer, object_of, or_null, text}
use Rattle.gcg_read.specs.declared.events.Seat.{Seat}
use Rattle.gcg_read.specs.declared.events.Seat.TheVariants as seat
use Rattle.gcg_read.specs.declared.events.Event.{Event}
use Rattle.gcg_read.specs.declared.players.Players.{Players}
use Rattle.gcg_read.specs.declared.records.Record.{Record}
use Rattle.gcg_write.specs.Normal.{normal_of}
use Rattle.repair_single.specs.declared.repair.Repair.{Repair}
use Rattle.compare_alignments.specs.declared.pairs.Side.{Side}
use Rattle.compare_choices.specs.declared.results.LastTotals.{LastTotals}
use Rattle.compare_repaired.specs.declared.repaired.RepairedChoice.{RepairedChoice}
use Rattle.compare_repaired.specs.declared.repaired.BestRepair.{BestRepair}
use Rattle.compare_answers.specs.declared.answers.ComparisonAnswer.{ComparisonAnswer}
use Rattle.compare_answers.specs.declared.counts.ItemCounts.{ItemCounts}
use Rattle.compare_answers.specs.declared.ends.GameEnd.{GameEnd}
use Rattle.compare_answers.specs.declared.found.WhyNotMerged.{WhyNotMerged}
use Rattle.json_base.specs.Players.{players_value, standing_object}
use Rattle.json_base.specs.Verdicts.{ending_word}
use Rattle.json_base.specs.Words.{player_number}
use Rattle.repair_json.specs.Changes.{single_object}
use Rattle.compare_json.specs.Choices.{best_object, choice_object, choices_value, stop_object}
use Rattle.compare_json.specs.Differences.{differences_value}
use Rattle.compare_json.specs.Names.{side_name, verdict_name, why_name}

-- ---- choices that were tried with one more change

-- the first of some repairs; null if there is none
abbrev pub first_repair : Players → (events : List Event) → List Repair → Json
first_repair players events [] = null
first_repair players events (repair ∷ repairs) = single_object players events repair

abbrev pub tried_fields : ItemCounts → Players → RepairedChoice → List Field
tried_fields counts players tried =
    (codes "choice", choice_object counts tried.choice)
    ∷ (codes "repair", first_repair players tried.written tried.found.reported.items)
    ∷ []

abbrev pub tried_object : ItemCounts → Players → RepairedChoice → Json
tried_object counts players tried = object_of (tried_fields counts players tried)

-- the cheapest repair of all: its number among those that were tried, the sheet whose line it changes, if the line has another number on the other sheet,
-- whether it is ahead of all others, and whether no change is left open
abbrev pub side_value : Option Side → Json
side_value None = null
side_value (Some its) = string (side_name its)

abbrev pub best_repair_fields : (changed : Option Side) → BestRepair → List Field
best_repair_fields changed best =
    (codes "tried", count best.index)
    ∷ (codes "sheet", side_value changed)
    ∷ (codes "ahead", boolean best.ahead)
    ∷ (codes "settled", boolean best.settled)
    ∷ []

abbrev pub best_repair_object : (changed : Option Side) → BestRepair → Json
best_repair_object changed best = object_of (best_repair_fields changed best)

-- ---- how the game ends

abbrev pub ending_value : Option GameEnd → Json
ending_value None = null
ending_value (Some end) = string (ending_word end.complete)

-- the last totals of a player: on both sheets, and the right one
abbrev pub totals_fields : Seat → LastTotals → List Field
totals_fields player totals =
    (codes "player", count (player_number player))
    ∷ (codes "first", or_null (option_map integer totals.first))
    ∷ (codes "second", or_null (option_map integer totals.second))
    ∷ (codes "right", or_null (option_map integer totals.right))
    ∷ []

abbrev pub totals_object : Seat → LastTotals → Json
totals_object player totals = object_of (totals_fields player totals)

abbrev pub totals_value : Option GameEnd → Json
totals_value None = array_of []
totals_value (Some end) = array_of (totals_object seat.First end.results.of_first ∷ totals_object seat.Second end.results.of_second ∷ [])

-- who is ahead: by the right numbers, and by those of each sheet, if it says so
abbrev pub ahead_value : Option GameEnd → Json
ahead_value None = null
ahead_value (Some end) = standing_object end.results.right

abbrev pub ahead_by_first : Option GameEnd → Json
ahead_by_first None = null
ahead_by_first (Some end) = or_null (option_map standing_object end.results.first)

abbrev pub ahead_by_second : Option GameEnd → Json
ahead_by_second None = null
ahead_by_second (Some end) = or_null (option_map standing_object end.results.second)

-- ---- the merged record in the normal form, or why there is none

abbrev pub merged_value : Result Record WhyNotMerged → Json
merged_value (Ok r) = text (normal_of r)
merged_value (Err reason) = null

abbrev pub not_merged : Result Record WhyNotMerged → Json
not_merged (Ok r) = null
not_merged (Err reason) = string (why_name reason)

-- ---- all of it

abbrev pub comparison_fields : ComparisonAnswer → List Field
comparison_fields a =
    (codes "verdict", string (verdict_name a.agreement))
    ∷ (codes "line", null)
    ∷ (codes "fault", null)
    ∷ (codes "ending", ending_value a.end)
    ∷ (codes "players", players_value a.sheets.first.players)
    ∷ (codes "differences", differences_value a.sheets a.pairs.items)
    ∷ (codes "not_varied", count a.counts.not_varied)
    ∷ (codes "choices", count a.counts.choices)
    ∷ (codes "best", or_null (option_map (best_object a.counts) a.comparison.find.best))
    ∷ (codes "rivals", choices_value a.counts a.comparison.find.rivals.items)
    ∷ (codes "left", choices_value a.counts a.comparison.find.remaining.items)
    ∷ (codes "furthest", or_null (option_map (stop_object a.counts a.sheets a.stop_at) a.comparison.furthest))
    ∷ (codes "tried", array_of (map (tried_object a.counts a.sheets.first.players) a.repaired.tried.items))
    ∷ (codes "best_repair", or_null (option_map (best_repair_object a.changed) a.repaired.best))
    ∷ (codes "totals", totals_value a.end)
    ∷ (codes "ahead", ahead_value a.end)
    ∷ (codes "ahead_by_first", ahead_by_first a.end)
    ∷ (codes "ahead_by_second", ahead_by_second a.end)
    ∷ (codes "merged", merged_value a.merged)
    ∷ (codes "not_merged", not_merged a.merged)
    ∷ []

abbrev pub comparison_object : ComparisonAnswer → Json
comparison_object a = object_of (comparison_fields a)
