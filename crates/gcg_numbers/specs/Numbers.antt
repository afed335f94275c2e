-- The text of a sheet with other numbers: in each event line the score and the total are replaced if they are not the given ones,
-- and nothing else is changed.
use Rattle.std.specs.Prelude.{ℕ, ℤ, ◌-◌, Bool, false, eqb, ◌==◌, List, [], ◌∷◌, ◌++◌, length, take, Option, Some, None, if◌then◌else◌}
use Rattle.std.specs.List.{slice_split, starts_with, ends_with, join_with_byte}
use Rattle.std.specs.Ordering.{int_eq}
use Rattle.std.specs.Fmt.{signed_decimal}
use Rattle.text_lines.specs.Lines.{without_mark, is_feed}
use Rattle.text_lines.specs.Fields.{is_blank}
use Rattle.gcg_read.specs.declared.events.Event.{Event}
use Rattle.gcg_read.specs.Numerals.{points_of}
use Rattle.gcg_write.specs.Fields.{score_text}

-- ---- the last field of a text

-- the last field of a text, what comes before it, and the blanks after it
pub record Last : Type 0 where
  pub front : List ℕ
  pub field : List ℕ
  pub back : List ℕ

-- the same with one more byte at the front
abbrev pub longer : (byte : ℕ) → (front field back : List ℕ) → Last
longer byte [] field back =
    if is_blank byte then record { front = byte ∷ []; field = field; back = back } else record { front = []; field = byte ∷ field; back = back }
longer byte (next ∷ front) field back = record { front = byte ∷ next ∷ front; field = field; back = back }

abbrev pub last_from : (byte : ℕ) → (text : List ℕ) → Option Last → Option Last
last_from byte text None = if is_blank byte then None else Some (record { front = []; field = byte ∷ []; back = text })
last_from byte text (Some last) = Some (longer byte last.front last.field last.back)

-- none if all bytes are blanks
abbrev pub last_field : List ℕ → Option Last
last_field [] = None
last_field (byte ∷ text) = last_from byte text (last_field text)

-- ---- numbers

-- whether a field gives this number
abbrev pub says : Option ℤ → ℤ → Bool
says None right = false
says (Some written) right = int_eq written right

-- a number as its field has it if that is right, and otherwise as records write it
abbrev pub number_text : (field : List ℕ) → (right : ℤ) → (text : List ℕ) → List ℕ
number_text field right text = if says (points_of field) right then field else text

-- a text whose last field is a score
abbrev pub with_score : (text : List ℕ) → (right : ℤ) → Option Last → List ℕ
with_score text right None = text
with_score text right (Some s) = s.front ++ (number_text s.field right (score_text right) ++ s.back)

-- a text whose last two fields are a score and a total
abbrev pub with_total : (text : List ℕ) → Event → Option Last → List ℕ
with_total text event None = text
with_total text event (Some t) = with_score t.front event.score (last_field t.front) ++ (number_text t.field event.total (signed_decimal event.total) ++ t.back)

unfoldable pub with_numbers : Event → List ℕ → List ℕ
with_numbers event text = with_total text event (last_field text)

-- ---- lines

-- a text in which what follows the first colon (58) is changed
abbrev pub after_colon : (List ℕ → List ℕ) → List ℕ → List ℕ
after_colon change [] = []
after_colon change (byte ∷ text) = if byte == 58 then byte ∷ change text else byte ∷ after_colon change text

-- a line that is changed, except for a CR (13) at its end
abbrev pub in_line : (List ℕ → List ℕ) → List ℕ → List ℕ
in_line change line = if ends_with eqb line (13 ∷ []) then change (take (length line - 1) line) ++ 13 ∷ [] else change line

-- the line of an event with its numbers
unfoldable pub line_with : Event → List ℕ → List ℕ
line_with event line = in_line (after_colon (with_numbers event)) line

-- '>' (62) at the front
abbrev pub is_event_line : List ℕ → Bool
is_event_line [] = false
is_event_line (byte ∷ text) = byte == 62

-- The lines of a sheet with the numbers of events: each event line gets those of one event, in order.
abbrev pub lines_with : List Event → List (List ℕ) → List (List ℕ)
lines_with events [] = []
lines_with [] (line ∷ lines) = line ∷ lines
lines_with (event ∷ events) (line ∷ lines) =
    if is_event_line line then line_with event line ∷ lines_with events lines else line ∷ lines_with (event ∷ events) lines

-- a byte order mark at the front
abbrev pub mark_of : List ℕ → List ℕ
mark_of text = if starts_with eqb text (0xef ∷ 0xbb ∷ 0xbf ∷ []) then 0xef ∷ 0xbb ∷ 0xbf ∷ [] else []

-- the text of a sheet with the numbers of events
unfoldable pub text_with : List Event → List ℕ → List ℕ
text_with events text = mark_of text ++ join_with_byte 10 (lines_with events (slice_split is_feed (without_mark text)))
