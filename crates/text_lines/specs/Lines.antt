-- How a text falls into lines.
use Rattle.std.specs.Prelude.{ℕ, ◌-◌, Bool, ◌==◌, eqb, List, [], ◌∷◌, length, take, drop, map, Option, Some, None, if◌then◌else◌}
use Rattle.std.specs.List.{slice_split, starts_with, ends_with}
use Rattle.std.specs.Borrow.{Bor}
use Rattle.text_lines.specs.declared.lines.Lines.{Lines}

-- a byte order mark at the front is ignored
abbrev pub without_mark : List ℕ → List ℕ
without_mark text = if starts_with eqb text (0xef ∷ 0xbb ∷ 0xbf ∷ []) then drop 3 text else text

-- one CR (13) at the end of a line is dropped
abbrev pub without_return : List ℕ → List ℕ
without_return line = if ends_with eqb line (13 ∷ []) then take (length line - 1) line else line

-- LF ends a line
abbrev pub is_feed : ℕ → Bool
is_feed byte = byte == 10

-- the lines of a text after its mark
unfoldable pub lines_in : List ℕ → List (List ℕ)
lines_in text = map without_return (slice_split is_feed text)

-- the lines of a text
abbrev pub lines_of : List ℕ → List (List ℕ)
lines_of text = lines_in (without_mark text)

-- ---- what the reader cuts off

-- the lines of what follows a line
abbrev pub lines_after : Option (Bor (List ℕ)) → List (List ℕ)
lines_after None = []
lines_after (Some after) = lines_in after.now

-- the lines that are still to come
abbrev pub lines_remaining : Lines → List (List ℕ)
lines_remaining lines = lines_after lines.unread
