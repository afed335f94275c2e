-- The text of a sheet with a change.
use Rattle.std.specs.Prelude.{ℕ, ◌+◌, ◌==◌, List, [], ◌∷◌, ◌++◌, length, if◌then◌else◌}
use Rattle.std.specs.List.{join_with_byte}
use Rattle.gcg_read.specs.declared.events.Event.{Event}
use Rattle.gcg_read.specs.declared.players.Players.{Players}
use Rattle.gcg_numbers.specs.Numbers.{is_event_line, mark_of}
use Rattle.repair_changes.specs.declared.slips.Change.{Change}
use Rattle.repair_rewrites.specs.EventLines.{lines_of, event_lines}
use Rattle.repair_rewrites.specs.Replacing.{in_place, missing_at}

-- the line that is missing after the last event line
abbrev pub after_last : Change → Players → (right : List Event) → (line : List ℕ) → (number many : ℕ) → List (List ℕ)
after_last change players right line number many = if number + 1 == many then missing_at change many players right line else []

-- the lines that replace an event line
abbrev pub for_event : Change → Players → (lines : List (List ℕ)) → (right : List Event) → (line : List ℕ) → (number : ℕ) → List (List ℕ)
for_event change players lines right line number =
    missing_at change number players right line ++ in_place change.slip change.place players lines right line number
    ++ after_last change players right line number (length lines)

-- the lines that replace a line before which there are `number` event lines: one that is not of an event stays
abbrev pub for_line : Change → Players → (events : List (List ℕ)) → (right : List Event) → (line : List ℕ) → (number : ℕ) → List (List ℕ)
for_line change players events right line number = if is_event_line line then for_event change players events right line number else line ∷ []

-- the number of event lines up to and including this line, given the number before it
abbrev pub number_after : (line : List ℕ) → (number : ℕ) → ℕ
number_after line number = if is_event_line line then number + 1 else number

-- The lines of a sheet with a change: event lines, which are numbered from `number` on, are replaced, and each other line stays.
abbrev pub repaired_lines : Change → Players → (events : List (List ℕ)) → (right : List Event) → (number : ℕ) → (lines : List (List ℕ)) → List (List ℕ)
repaired_lines change players events right number [] = []
repaired_lines change players events right number (line ∷ lines) =
    for_line change players events right line number ++ repaired_lines change players events right (number_after line number) lines

unfoldable pub repaired_text : Change → Players → (right : List Event) → (text : List ℕ) → List ℕ
repaired_text change players right text = mark_of text ++ join_with_byte 10 (repaired_lines change players (event_lines text) right 0 (lines_of text))
