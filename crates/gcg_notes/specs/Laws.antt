-- What a reader reads from a sheet with notes, and what the sheet is without them.
use Rattle.std.specs.Prelude.{◌≡◌, ◌≤◌, ◌⊎◌, ℕ, List, [], ◌∷◌, length, Ok, codes}
use Rattle.text_lines.specs.Fronts.{IsFront}
use Rattle.text_lines.specs.Lines.{without_mark}
use Rattle.gcg_read.specs.declared.events.Event.{Event}
use Rattle.gcg_read.specs.declared.records.Record.{Record}
use Rattle.gcg_read.specs.Records.{record_of, most_bytes}
use Rattle.gcg_numbers.specs.Numbers.{mark_of}
use Rattle.gcg_notes.specs.Notes.{raw_lines, text_with_notes}

-- ---- what a reader reads from it

-- the same events, which may be on other lines
abbrev pub AreMoved : List Event → List Event → Type 0
AreMoved [] [] = Unit {0}
AreMoved [] (new ∷ news) = ⊥
AreMoved (old ∷ olds) [] = ⊥
AreMoved (old ∷ olds) (new ∷ news) = (new ≡ record old { line = new.line }) × AreMoved olds news

-- the text gives a record with the same players and the same events, which may be on other lines
pub record IsMoved (old : Record) (text : List ℕ) : Type 0 where
  pub new : Record
  pub reads : record_of text ≡ Ok new
  pub players : new.players ≡ old.players
  pub events : AreMoved old.events new.events

-- A sheet with notes gives the same record, except for the numbers of its lines, if it is not too long.
abbrev pub IsReadWithNotes : Type 0
IsReadWithNotes = (notes text : List ℕ) (r : Record) → record_of text ≡ Ok r → length (text_with_notes notes text) ≤ most_bytes → IsMoved r (text_with_notes notes text)

-- ---- what the sheet is without them

abbrev pub IsNoteLine : List ℕ → Type 0
IsNoteLine line = IsFront (codes "#note ") line

-- lines among which lines of notes are inserted
abbrev pub AreNoted : (old new : List (List ℕ)) → Type 0
AreNoted [] [] = Unit {0}
AreNoted (line ∷ olds) [] = ⊥
AreNoted [] (new ∷ news) = IsNoteLine new × AreNoted [] news
AreNoted (line ∷ olds) (new ∷ news) = ((new ≡ line) × AreNoted olds news) ⊎ (IsNoteLine new × AreNoted (line ∷ olds) news)

-- the same text except for inserted lines of notes
pub record IsNoted (old new : List ℕ) : Type 0 where
  pub mark : mark_of new ≡ mark_of old
  pub lines : AreNoted (raw_lines (without_mark old)) (raw_lines (without_mark new))

-- A sheet with notes is the sheet as it was, except for inserted lines of notes.
abbrev pub IsOnlyNoted : Type 0
IsOnlyNoted = (notes text : List ℕ) → IsNoted text (text_with_notes notes text)
