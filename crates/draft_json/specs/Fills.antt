-- What is found of a draft as an object.
use Rattle.std.specs.Prelude.{ℕ, Bool, true, false, nat_lt, List, [], ◌∷◌, ◌++◌, codes, count_by, length, slice_get, Option, Some, None, if◌then◌else◌}
use Rattle.std.specs.List.{filter_map, range_with_len}
use Rattle.std.specs.Option.{option_and_then}
use Rattle.json.specs.Json.{Json, boolean}
use Rattle.json_trees.specs.Values.{Field, array_of, count, integer, object_of}
use Rattle.game_walk.specs.declared.refusals.Refusal.{Refusal}
use Rattle.gcg_read.specs.declared.events.Event.{Event}
use Rattle.gcg_drafts.specs.declared.missing.Missing.{Missing}
use Rattle.gcg_drafts.specs.declared.missing.Missing.TheVariants as missing
use Rattle.draft_answers.specs.declared.filled.FilledDraft.{FilledDraft}
use Rattle.draft_answers.specs.Counting.{is_missing, is_both, lacks_before}
use Rattle.gcg_unread.specs.declared.lines.UnreadLine.{UnreadLine}
use Rattle.sheet_json.specs.Audits.{audit_fields}

-- what the events lack that come before the line that the rules refuse
abbrev pub lacks_reported : FilledDraft → List Missing
lacks_reported filled = lacks_before filled.lacks.items filled.answer.audit.entry.record.events filled.stopped

-- how many numbers were put in
abbrev pub put_in_fields : FilledDraft → List Field
put_in_fields filled =
    (codes "scores", count (count_by is_both (lacks_reported filled)))
    ∷ (codes "totals", count (count_by is_missing (lacks_reported filled)))
    ∷ []

abbrev pub put_in_object : FilledDraft → Json
put_in_object filled = object_of (put_in_fields filled)

-- the right numbers of an event, and whether the score was put in too
abbrev pub line_fields : Event → (score_put_in : Bool) → List Field
line_fields event score_put_in =
    (codes "line", count event.line)
    ∷ (codes "score", integer event.score)
    ∷ (codes "total", integer event.total)
    ∷ (codes "score_put_in", boolean score_put_in)
    ∷ []

abbrev pub line_object : Event → (score_put_in : Bool) → Json
line_object event score_put_in = object_of (line_fields event score_put_in)

-- of an event into whose line a number was put
abbrev pub put_in_line : Event → Missing → Option Json
put_in_line event missing.Nothing = None
put_in_line event missing.Total = Some (line_object event false)
put_in_line event missing.Both = Some (line_object event true)

-- the line that the rules refuse
abbrev pub stop_of : Option Refusal → Option ℕ
stop_of None = None
stop_of (Some refusal) = Some refusal.line

abbrev pub is_before : Event → (stop : Option ℕ) → Bool
is_before event None = true
is_before event (Some stop) = nat_lt event.line stop

-- of the event at a place, if it comes before that line
abbrev pub line_before : (stop : Option ℕ) → Event → Missing → Option Json
line_before stop event lacking = if is_before event stop then put_in_line event lacking else None

abbrev pub line_with : (stop : Option ℕ) → List Missing → (place : ℕ) → Event → Option Json
line_with stop lacks place event = option_and_then (line_before stop event) (slice_get lacks place)

unfoldable pub line_at : (stop : Option ℕ) → List Event → List Missing → (place : ℕ) → Option Json
line_at stop events lacks place = option_and_then (line_with stop lacks place) (slice_get events place)

-- each line into which a number was put
abbrev pub lines_value : (stop : Option ℕ) → List Event → List Missing → Json
lines_value stop events lacks = array_of (filter_map (line_at stop events lacks) (range_with_len 0 (length events)))

abbrev pub more_fields : FilledDraft → List Field
more_fields filled =
    (codes "put_in", put_in_object filled)
    ∷ (codes "lines", lines_value (stop_of filled.stopped) filled.answer.audit.entry.record.events filled.lacks.items)
    ∷ []

-- the fields of `audit`, and after them how many numbers were put in, and into which lines
abbrev pub fill_fields : FilledDraft → List UnreadLine → List Field
fill_fields filled unread = audit_fields filled.answer unread ++ more_fields filled

abbrev pub fill_object : FilledDraft → List UnreadLine → Json
fill_object filled unread = object_of (fill_fields filled unread)
