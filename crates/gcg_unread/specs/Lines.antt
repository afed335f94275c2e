-- The lines of a record that are not read although they look like events.
use Rattle.std.specs.Prelude.{ℕ, ◌+◌, Bool, false, not, ◌&&◌, ◌||◌, ◌==◌, nat_lt, List, [], ◌∷◌, ◌++◌, length, codes, Option, Some, None, if◌then◌else◌}
use Rattle.std.specs.List.{list_all, starts_with, before_first}
use Rattle.std.specs.Char.{is_ascii_punctuation}
use Rattle.text_lines.specs.Lines.{lines_of}
use Rattle.text_lines.specs.Fields.{fields_of}
use Rattle.gcg_read.specs.Records.{most_bytes}
use Rattle.gcg_unread.specs.declared.lines.UnreadLine.{UnreadLine}
use Rattle.gcg_unread.specs.declared.reasons.UnreadWhy.{UnreadWhy}
use Rattle.gcg_unread.specs.declared.reasons.UnreadWhy.TheVariants as why
use Rattle.gcg_unread.specs.Readings.{is_mark, from_mark, has_event}
use Rattle.gcg_unread.specs.Moves.{has_move}

-- A line is neither an event, which begins with > (62), nor a pragma, which begins with # (35), and it has a byte: a reader of records takes nothing
-- from it.
abbrev pub is_passed_over : List ℕ → Bool
is_passed_over [] = false
is_passed_over (byte ∷ bytes) = not (byte == 62) && not (byte == 35)

-- a space, a tab, or a byte of a no-break space: 194 and 160 in UTF-8, 160 in ISO-8859-1
abbrev pub is_gap : ℕ → Bool
is_gap byte = byte == 32 || byte == 9 || byte == 194 || byte == 160

-- the pragma with which a note begins
abbrev pub is_note : List ℕ → Bool
is_note line = starts_with ◌==◌ line (codes "#note")

-- Whether a note may go on after a line, by whether it may go on there: it goes on over lines until the next event or pragma.
abbrev pub note_after : Bool → List ℕ → Bool
note_after in_note [] = in_note
note_after in_note (byte ∷ bytes) = if byte == 62 then false else (if byte == 35 then is_note (byte ∷ bytes) else in_note)

-- a line that is an event from its first > on has only blanks before it, or something else
abbrev pub why_before : List ℕ → UnreadWhy
why_before line = if list_all is_gap (before_first is_mark line) then why.Blank else why.Before

-- a line that is an event with > in front begins with another sign, or has none
abbrev pub why_without : List ℕ → UnreadWhy
why_without [] = why.NoMark
why_without (byte ∷ bytes) = if is_ascii_punctuation byte then why.OtherSign else why.NoMark

-- a line that is no event has parts of one, and is not in a note
abbrev pub why_parts : (in_note : Bool) → List ℕ → Option UnreadWhy
why_parts in_note line = if in_note then None else (if has_move (fields_of line) then Some why.Parts else None)

-- Why a line is not read, if it looks like an event: from its first > on it is one, or it is one with > in front; or, outside a note, it has a
-- position or a code, and two numbers.
unfoldable pub why_unread : (in_note : Bool) → List ℕ → Option UnreadWhy
why_unread in_note line =
    if not (is_passed_over line) then None
    else (if has_event (from_mark line) then Some (why_before line)
    else (if has_event (62 ∷ line) then Some (why_without line)
    else why_parts in_note line))

-- a line in the list, if there is a reason
abbrev pub listed : (line : ℕ) → Option UnreadWhy → List UnreadLine
listed line None = []
listed line (Some reason) = record { line = line; why = reason } ∷ []

-- those of further lines, the first of which has this number
unfoldable pub unread_from : (in_note : Bool) → (line : ℕ) → List (List ℕ) → List UnreadLine
unread_from in_note line [] = []
unread_from in_note line (text ∷ rest) = listed line (why_unread in_note text) ++ unread_from (note_after in_note text) (line + 1) rest

-- those of a text that is not too long for a record; its lines are numbered from 1
unfoldable pub unread_of : List ℕ → List UnreadLine
unread_of text = if nat_lt most_bytes (length text) then [] else unread_from false 1 (lines_of text)
