-- The notes of a record.
use Rattle.std.specs.Prelude.{ℕ, ◌+◌, ◌==◌, Bool, List, [], ◌∷◌, ◌++◌, codes, Option, Some, None, if◌then◌else◌}
use Rattle.std.specs.List.{starts_with}
use Rattle.gcg_about.specs.declared.notes.Note.{Note}
use Rattle.gcg_about.specs.Pragmas.{said}

-- a note: how many lines of events are before it, and what it says
pub record NoteText : Type 0 where
  pub after : ℕ
  pub text : List ℕ

-- what contracts see of a note
abbrev pub note_in : Note → NoteText
note_in note = record { after = note.after; text = note.text.items }

abbrev pub note_by : (after : ℕ) → Option (List ℕ) → List NoteText
note_by after None = []
note_by after (Some text) = record { after = after; text = text } ∷ []

-- the note of a line, if it begins with the word `#note`
abbrev pub note_on : (after : ℕ) → (line : List ℕ) → List NoteText
note_on after line = note_by after (said (codes "#note") line)

-- the line of an event begins with `>` (62)
abbrev pub is_event : List ℕ → Bool
is_event line = starts_with ◌==◌ line (62 ∷ [])

-- how many lines of events are before the next line
unfoldable pub following : (after : ℕ) → (line : List ℕ) → ℕ
following after line = if is_event line then after + 1 else after

-- the notes of further lines, with `after` lines of events before them
unfoldable pub notes_from : (after : ℕ) → List (List ℕ) → List NoteText
notes_from after [] = []
notes_from after (line ∷ lines) = note_on after line ++ notes_from (following after line) lines
