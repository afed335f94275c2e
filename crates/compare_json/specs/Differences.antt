-- Pairs of lines that are not the same, as objects.
use Rattle.std.specs.Prelude.{ℕ, ◌&&◌, Bool, true, false, List, [], ◌∷◌, codes, length, slice_get, Option, Some, None, if◌then◌else◌}
use Rattle.std.specs.List.{filter_map, range_with_len}
use Rattle.std.specs.Option.{option_and_then}
use Rattle.json.specs.Json.{Json, null, string}
use Rattle.json_trees.specs.Values.{Field, array_of, count, integer, object_of, text}
use Rattle.gcg_read.specs.declared.events.Event.{Event}
use Rattle.gcg_read.specs.declared.records.Record.{Record}
use Rattle.gcg_read.specs.Players.{player_of}
use Rattle.gcg_drafts.specs.declared.missing.Missing.{Missing}
use Rattle.draft_numbers.specs.Texts.{text_without}
use Rattle.engine_stages.specs.declared.verdicts.GameFault.TheVariants as game
use Rattle.compare_alignments.specs.declared.pairs.Pair.{Pair}
use Rattle.compare_alignments.specs.declared.pairs.Side.TheVariants as side
use Rattle.compare_choices.specs.declared.sheets.Sheets.{Sheets}
use Rattle.compare_choices.specs.Lacking.{lack_on}
use Rattle.compare_answers.specs.declared.lines.LinesAnswer.{LinesAnswer}
use Rattle.compare_answers.specs.declared.lines.LinesAnswer.TheVariants as lines
use Rattle.compare_answers.specs.declared.lines.OtherLine.{OtherLine}
use Rattle.compare_answers.specs.declared.lines.OtherLine.TheVariants as other
use Rattle.compare_answers.specs.declared.racks.RacksAnswer.{RacksAnswer}
use Rattle.compare_answers.specs.declared.racks.RacksAnswer.TheVariants as racks
use Rattle.compare_answers.specs.declared.pairs.PairAnswer.{PairAnswer}
use Rattle.json_base.specs.Values.{rack_value}
use Rattle.json_base.specs.Words.{player_number}
use Rattle.compare_json.specs.Choices.{refused_object}
use Rattle.compare_json.specs.Names.{lines_name, other_name, own_rack_name, racks_name, side_name}

-- ---- a line of a sheet: its number, its player, the rack if one is stated, and what it says after that, without the numbers that it lacks

abbrev pub line_fields : Record → Missing → Event → List Field
line_fields r missing event =
    (codes "line", count event.line)
    ∷ (codes "player", count (player_number event.player))
    ∷ (codes "nick", text (player_of r.players event.player).nick)
    ∷ (codes "rack", rack_value event.rack)
    ∷ (codes "text", text (text_without missing event))
    ∷ []

abbrev pub line_object : Record → Missing → Event → Json
line_object r missing event = object_of (line_fields r missing event)

abbrev pub line_or_null : Record → Missing → Option Event → Json
line_or_null r missing None = null
line_or_null r missing (Some event) = line_object r missing event

-- the one at a place, if there is a place
abbrev pub line_at : Record → Missing → (place : Option ℕ) → Json
line_at r missing place = line_or_null r missing (option_and_then (slice_get r.events) place)

-- ---- what is said of the lines

abbrev pub taken_value : LinesAnswer → Json
taken_value lines.Agree = null
taken_value (lines.OtherScores right) = null
taken_value lines.Differ = null
taken_value (lines.Taken taken it) = string (side_name taken)

-- what comes of the line that is not taken
abbrev pub other_of : LinesAnswer → Option OtherLine
other_of lines.Agree = None
other_of (lines.OtherScores right) = None
other_of lines.Differ = None
other_of (lines.Taken taken it) = Some it

abbrev pub other_value : Option OtherLine → Json
other_value None = null
other_value (Some it) = string (other_name it)

-- if an event is refused with it, where
abbrev pub refused_with : Sheets → OtherLine → Json
refused_with sheets other.NotVaried = null
refused_with sheets other.AsGood = null
refused_with sheets (other.Refused at reason) = refused_object sheets at (game.Rule reason)
refused_with sheets other.NoDeal = null
refused_with sheets other.NoDealFound = null
refused_with sheets (other.OtherScore written right) = null
refused_with sheets other.MoreWrong = null

abbrev pub refused_value : Sheets → Option OtherLine → Json
refused_value sheets None = null
refused_value sheets (Some it) = refused_with sheets it

-- the score that is written on it
abbrev pub written_on : OtherLine → Json
written_on other.NotVaried = null
written_on other.AsGood = null
written_on (other.Refused at reason) = null
written_on other.NoDeal = null
written_on other.NoDealFound = null
written_on (other.OtherScore written right) = integer written
written_on other.MoreWrong = null

abbrev pub written_value : Option OtherLine → Json
written_value None = null
written_value (Some it) = written_on it

-- the score that the rules give
abbrev pub right_on : OtherLine → Json
right_on other.NotVaried = null
right_on other.AsGood = null
right_on (other.Refused at reason) = null
right_on other.NoDeal = null
right_on other.NoDealFound = null
right_on (other.OtherScore written right) = integer right
right_on other.MoreWrong = null

abbrev pub right_value : LinesAnswer → Json
right_value lines.Agree = null
right_value (lines.OtherScores right) = integer right
right_value lines.Differ = null
right_value (lines.Taken taken it) = right_on it

-- ---- what is said of the racks: the player's own sheet, and why its rack is not taken

abbrev pub own_sheet : RacksAnswer → Json
own_sheet racks.Same = null
own_sheet racks.Differ = null
own_sheet (racks.Own its player) = string (side_name its)
own_sheet (racks.Other its player reason) = string (side_name its)

abbrev pub own_rack : RacksAnswer → Json
own_rack racks.Same = null
own_rack racks.Differ = null
own_rack (racks.Own its player) = null
own_rack (racks.Other its player reason) = string (own_rack_name reason)

-- ---- a pair of lines

abbrev pub difference_fields : Sheets → Pair → PairAnswer → List Field
difference_fields sheets pair answer =
    (codes "first", line_at sheets.first (lack_on sheets pair side.First) pair.first)
    ∷ (codes "second", line_at sheets.second (lack_on sheets pair side.Second) pair.second)
    ∷ (codes "lines", string (lines_name answer.lines))
    ∷ (codes "taken", taken_value answer.lines)
    ∷ (codes "other", other_value (other_of answer.lines))
    ∷ (codes "refused", refused_value sheets (other_of answer.lines))
    ∷ (codes "written", written_value (other_of answer.lines))
    ∷ (codes "right", right_value answer.lines)
    ∷ (codes "racks", string (racks_name answer.racks))
    ∷ (codes "own_sheet", own_sheet answer.racks)
    ∷ (codes "own_rack", own_rack answer.racks)
    ∷ []

abbrev pub difference_object : Sheets → Pair → PairAnswer → Json
difference_object sheets pair answer = object_of (difference_fields sheets pair answer)

-- the lines are the same: they agree, scores included, and state the same rack, or one of them none
abbrev pub do_agree : LinesAnswer → Bool
do_agree lines.Agree = true
do_agree (lines.OtherScores right) = false
do_agree lines.Differ = false
do_agree (lines.Taken taken it) = false

abbrev pub are_same : RacksAnswer → Bool
are_same racks.Same = true
are_same racks.Differ = false
are_same (racks.Own its player) = false
are_same (racks.Other its player reason) = false

abbrev pub is_same : PairAnswer → Bool
is_same answer = do_agree answer.lines && are_same answer.racks

abbrev pub unless_same : Sheets → Pair → PairAnswer → Option Json
unless_same sheets pair answer = if is_same answer then None else Some (difference_object sheets pair answer)

-- the pair with an index, if its lines are not the same
abbrev pub unless_same_at : Sheets → (answers : List PairAnswer) → (index : ℕ) → Pair → Option Json
unless_same_at sheets answers index pair = option_and_then (unless_same sheets pair) (slice_get answers index)

unfoldable pub difference_at : Sheets → (answers : List PairAnswer) → (index : ℕ) → Option Json
difference_at sheets answers index = option_and_then (unless_same_at sheets answers index) (slice_get sheets.pairs.items index)

-- all of them, in their order
abbrev pub differences_value : Sheets → (answers : List PairAnswer) → Json
differences_value sheets answers = array_of (filter_map (difference_at sheets answers) (range_with_len 0 (length answers)))
