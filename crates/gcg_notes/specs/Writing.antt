-- How a note is written.
use Rattle.std.specs.Prelude.{ℕ, List, [], ◌∷◌}
use Rattle.gcg_notes.specs.Notes.{note_line}

-- what follows a line that has this note: an LF (10) and the line of the note, or nothing
abbrev pub note_after : (line note : List ℕ) → List ℕ
note_after line [] = []
note_after line (byte ∷ note) = 10 ∷ note_line line (byte ∷ note)
