-- Choices of the lines as objects.
use Rattle.std.specs.Prelude.{ℕ, ◌-◌, ◌&&◌, nat_le, nat_lt, Bool, true, false, List, [], ◌∷◌, codes, map, slice_get, Option, Some, None, if◌then◌else◌}
use Rattle.std.specs.List.{filter_map, range_with_len}
use Rattle.std.specs.Option.{option_and_then}
use Rattle.json.specs.Json.{Json, null, string}
use Rattle.json_trees.specs.Values.{Field, array_of, count, object_of}
use Rattle.gcg_read.specs.declared.events.Event.{Event}
use Rattle.engine_stages.specs.declared.verdicts.GameFault.{GameFault}
use Rattle.engine_stages.specs.declared.verdicts.GameFault.TheVariants as game
use Rattle.compare_alignments.specs.declared.pairs.Pair.{Pair}
use Rattle.compare_alignments.specs.Merging.{chosen_side, is_chosen}
use Rattle.compare_choices.specs.declared.best.Best.{Best}
use Rattle.compare_choices.specs.declared.comparing.Stop.{Stop}
use Rattle.compare_choices.specs.declared.sheets.Sheets.{Sheets}
use Rattle.compare_answers.specs.declared.counts.ItemCounts.{ItemCounts}
use Rattle.json_base.specs.Faults.{game_fault_object}
use Rattle.compare_json.specs.Names.{side_name}

-- ---- a choice: of each of the first twelve items what it takes

-- of a pair of lines that differ the sheet whose line is taken
abbrev pub line_taken : ItemCounts → (choice number : ℕ) → Option Json
line_taken counts choice number = if nat_lt number counts.items then Some (string (side_name (chosen_side choice number))) else None

-- of a pair of racks that are not the same whether the one of the player's own sheet is taken
abbrev pub rack_name : Bool → List ℕ
rack_name true = codes "other"
rack_name false = codes "own"

abbrev pub is_rack : ItemCounts → (number : ℕ) → Bool
is_rack counts number = nat_le counts.items number && nat_lt (number - counts.items) counts.racks

abbrev pub rack_taken : ItemCounts → (choice number : ℕ) → Option Json
rack_taken counts choice number = if is_rack counts number then Some (string (rack_name (is_chosen choice number))) else None

unfoldable pub lines_to : ItemCounts → (choice many : ℕ) → List Json
lines_to counts choice many = filter_map (line_taken counts choice) (range_with_len 0 many)

unfoldable pub racks_to : ItemCounts → (choice many : ℕ) → List Json
racks_to counts choice many = filter_map (rack_taken counts choice) (range_with_len 0 many)

abbrev pub choice_fields : ItemCounts → (choice : ℕ) → List Field
choice_fields counts choice =
    (codes "lines", array_of (lines_to counts choice 12))
    ∷ (codes "racks", array_of (racks_to counts choice 12))
    ∷ []

abbrev pub choice_object : ItemCounts → (choice : ℕ) → Json
choice_object counts choice = object_of (choice_fields counts choice)

abbrev pub choices_value : ItemCounts → (choices : List ℕ) → Json
choices_value counts choices = array_of (map (choice_object counts) choices)

-- the best choice, what it costs, and how many of its plays stand with a word that is not in the list
abbrev pub best_fields : ItemCounts → Best → List Field
best_fields counts best =
    (codes "choice", choice_object counts best.choice)
    ∷ (codes "cost", count best.cost)
    ∷ (codes "unlisted", count best.unlisted)
    ∷ []

abbrev pub best_object : ItemCounts → Best → Json
best_object counts best = object_of (best_fields counts best)

-- ---- where an event is refused

-- the line at a place of a sheet; null if there is none
abbrev pub line_value : Option Event → Json
line_value None = null
line_value (Some event) = count event.line

abbrev pub line_at : List Event → (place : Option ℕ) → Json
line_at events place = line_value (option_and_then (slice_get events) place)

abbrev pub first_line : List Event → Option Pair → Json
first_line events None = null
first_line events (Some pair) = line_at events pair.first

abbrev pub second_line : List Event → Option Pair → Json
second_line events None = null
second_line events (Some pair) = line_at events pair.second

abbrev pub pair_at : Sheets → (at : Option ℕ) → Option Pair
pair_at sheets at = option_and_then (slice_get sheets.pairs.items) at

-- the lines of the pair, and the fault
abbrev pub refused_fields : Sheets → (at : Option ℕ) → GameFault → List Field
refused_fields sheets at fault =
    (codes "first", first_line sheets.first.events (pair_at sheets at))
    ∷ (codes "second", second_line sheets.second.events (pair_at sheets at))
    ∷ (codes "fault", game_fault_object fault)
    ∷ []

abbrev pub refused_object : Sheets → (at : Option ℕ) → GameFault → Json
refused_object sheets at fault = object_of (refused_fields sheets at fault)

-- a choice that stops, and where
abbrev pub stop_fields : ItemCounts → Sheets → (at : Option ℕ) → Stop → List Field
stop_fields counts sheets at stop =
    (codes "choice", choice_object counts stop.choice)
    ∷ (codes "refused", refused_object sheets at (game.Rule stop.stopped.refusal.why))
    ∷ []

abbrev pub stop_object : ItemCounts → Sheets → (at : Option ℕ) → Stop → Json
stop_object counts sheets at stop = object_of (stop_fields counts sheets at stop)
