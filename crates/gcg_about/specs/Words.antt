-- What a record says in words besides its events.
use Rattle.std.specs.Prelude.{◌≡◌, ℕ, List, codes, map, Option, option_map}
use Rattle.text_lines.specs.Lines.{lines_of}
use Rattle.gcg_about.specs.declared.words.RecordWords.{RecordWords}
use Rattle.gcg_about.specs.Pragmas.{first_said}
use Rattle.gcg_about.specs.Notes.{note_in, notes_from}

-- The words are those of a text: what the first line of each kind says, and what each note says, with the number of lines of events before it.
pub record AreWordsOf (text : List ℕ) (words : RecordWords) : Type 0 where
  pub title : option_map (λ said. said.items) words.title ≡ first_said (codes "#title") (lines_of text)
  pub event : option_map (λ said. said.items) words.event ≡ first_said (codes "#event") (lines_of text)
  pub description : option_map (λ said. said.items) words.description ≡ first_said (codes "#description") (lines_of text)
  pub lexicon : option_map (λ said. said.items) words.lexicon ≡ first_said (codes "#lexicon") (lines_of text)
  pub notes : map note_in words.notes.items ≡ notes_from 0 (lines_of text)
