-- What an annotated sheet is.
use Rattle.std.specs.Prelude.{◌≡◌, ℕ, List}
use Rattle.gcg_notes.specs.Notes.{text_with_notes}

-- the text of a sheet into which notes are put, one line each, after the lines of its events
pub record IsAnnotated (text new : List ℕ) : Type 0 where
  pub notes : List ℕ
  pub whole : new ≡ text_with_notes notes text
