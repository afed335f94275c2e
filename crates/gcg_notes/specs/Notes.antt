-- The text of a sheet in which notes are inserted, each after the line of its event; nothing else is changed.
use Rattle.std.specs.Prelude.{ℕ, eqb, List, [], ◌∷◌, ◌++◌, codes, if◌then◌else◌}
use Rattle.std.specs.List.{slice_split, ends_with, join_with_byte}
use Rattle.text_lines.specs.Lines.{without_mark, is_feed}
use Rattle.gcg_numbers.specs.Numbers.{is_event_line, mark_of}

-- the CR (13) at the end of a line, if there is one
abbrev pub return_of : List ℕ → List ℕ
return_of line = if ends_with eqb line (13 ∷ []) then 13 ∷ [] else []

-- the line of a note: it ends as the line before it does
abbrev pub note_line : (line note : List ℕ) → List ℕ
note_line line note = codes "#note " ++ (note ++ return_of line)

-- a line, and after it that of its note; an empty note has no line
abbrev pub noted : (line note : List ℕ) → List (List ℕ)
noted line [] = line ∷ []
noted line (byte ∷ note) = line ∷ note_line line (byte ∷ note) ∷ []

-- a line with the first of the notes, if it is that of an event
abbrev pub first_noted : (notes : List (List ℕ)) → (line : List ℕ) → List (List ℕ)
first_noted [] line = line ∷ []
first_noted (note ∷ notes) line = if is_event_line line then noted line note else line ∷ []

-- the lines of a sheet with notes: each event line gets one note, in order
abbrev pub with_notes : (notes lines : List (List ℕ)) → List (List ℕ)
with_notes notes [] = []
with_notes [] (line ∷ lines) = line ∷ lines
with_notes (note ∷ notes) (line ∷ lines) = if is_event_line line then noted line note ++ with_notes notes lines else line ∷ with_notes (note ∷ notes) lines

-- the lines of a text, each without its LF
abbrev pub raw_lines : List ℕ → List (List ℕ)
raw_lines text = slice_split is_feed text

-- the text of a sheet with the notes that are the lines of another text
unfoldable pub text_with_notes : (notes text : List ℕ) → List ℕ
text_with_notes notes text = mark_of text ++ join_with_byte 10 (with_notes (raw_lines notes) (raw_lines (without_mark text)))
