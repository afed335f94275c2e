-- How the lines of a text are cut off.
use Rattle.std.specs.Prelude.{ℕ, ◌==◌, Bool, List, [], ◌∷◌, if◌then◌else◌, Option, Some, None}
use Rattle.std.specs.Borrow.{Bor}
use Rattle.std.specs.List.{slice_split}
use Rattle.text_lines.specs.Lines.{is_feed}
use Rattle.gcg_read.specs.declared.events.Event.{Event}
use Rattle.gcg_numbers.specs.Numbers.{line_with, is_event_line}

abbrev pub is_colon : ℕ → Bool
is_colon byte = byte == 58

-- the lines of what follows an LF
abbrev pub parts_after : Option (Bor (List ℕ)) → List (List ℕ)
parts_after None = []
parts_after (Some after) = slice_split is_feed after.now

-- a line with the numbers of the first event, if it is an event line and there is one
abbrev pub first_with : List Event → List ℕ → List ℕ
first_with [] line = line
first_with (event ∷ events) line = if is_event_line line then line_with event line else line
