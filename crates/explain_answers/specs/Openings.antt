-- How an explanation begins: the verdict line, and the line of the record that is explained.
use Rattle.std.specs.Prelude.{◌≡◌, ℕ, List, [], ◌∷◌, ◌++◌, codes, decimal, slice_get, Result, Ok, Err, Option, Some, None}
use Rattle.gcg_read.specs.declared.events.Event.{Event}
use Rattle.gcg_read.specs.declared.faults.ReadFault.{ReadFault}
use Rattle.game_board.specs.Places.{place_of_line}
use Rattle.explain_clues.specs.Lines.{line_of}
use Rattle.game_case.specs.declared.entries.Entry.{Entry}
use Rattle.game_case.specs.declared.findings.Finding.{Finding}
use Rattle.game_case.specs.declared.findings.Finding.TheVariants as finding
use Rattle.game_case.specs.Explaining.{case_line}
use Rattle.engine_stages.specs.Reports.{bad_line_line}

-- line NUMBER: BYTES, if there is such a line
abbrev pub shown : (number : ℕ) → Option (List ℕ) → List ℕ
shown number None = []
shown number (Some line) = codes "line " ++ decimal number ++ codes ": " ++ line ++ 10 ∷ []

-- the line of a text with a number, as an explanation shows it
abbrev pub shown_line : (text : List ℕ) → (number : ℕ) → List ℕ
shown_line text number = shown number (line_of text number)

-- the line of an event, if there is one
abbrev pub event_shown : (text : List ℕ) → Option Event → List ℕ
event_shown text None = []
event_shown text (Some e) = shown_line text e.line

-- the line of the event at a place, if there is one
abbrev pub place_shown : (text : List ℕ) → List Event → Option ℕ → List ℕ
place_shown text events None = []
place_shown text events (Some place) = event_shown text (slice_get events place)

-- the place of the event that a finding faults
abbrev pub place_of_fault : List Event → Finding → Option ℕ
place_of_fault events (finding.Illegal line fault) = place_of_line events line
place_of_fault events other = None

-- how the explanation of the line of a record begins, by the place that the line means
abbrev pub place_opening : (verdict text : List ℕ) → List Event → Option ℕ → List ℕ
place_opening verdict text events None = bad_line_line
place_opening verdict text events (Some place) = verdict ++ place_shown text events (Some place)

-- The same for a record: without a line the verdict line, and the line of the event that is not allowed; with one the verdict line,
-- and the line of the first event on it or after it, or that there is none.
abbrev pub record_opening : (verdict text : List ℕ) → Entry → (line : Option ℕ) → List ℕ
record_opening verdict text entry None = verdict ++ place_shown text entry.record.events (place_of_fault entry.record.events entry.finding)
record_opening verdict text entry (Some line) = place_opening verdict text entry.record.events (place_of_line entry.record.events line)

-- The same for a case. A text that is not a record has its verdict line, and the line of its fault.
abbrev pub opening : (text : List ℕ) → Result Entry ReadFault → (line : Option ℕ) → List ℕ
opening text (Ok entry) line = record_opening (case_line (Ok entry)) text entry line
opening text (Err fault) line = case_line (Err fault) ++ shown_line text fault.line

-- an output goes on with a text, and with more after it
pub record GoesOn (front old new : List ℕ) : Type 0 where
  pub more : List ℕ
  pub following : new ≡ old ++ front ++ more
