-- The event lines of a text.
use Rattle.std.specs.Prelude.{ℕ, List, map, filter}
use Rattle.std.specs.Borrow.{Bor}
use Rattle.std.specs.List.{slice_split}
use Rattle.text_lines.specs.Lines.{without_mark, is_feed}
use Rattle.gcg_numbers.specs.Numbers.{is_event_line}

-- the texts of borrowed lines
abbrev pub texts : List (Bor (List ℕ)) → List (List ℕ)
texts lines = map (λ (line : Bor (List ℕ)). line.now) lines

-- the lines of a text without a byte order mark
abbrev pub raw_lines : List ℕ → List (List ℕ)
raw_lines text = slice_split is_feed text

-- the lines of a text
abbrev pub lines_of : List ℕ → List (List ℕ)
lines_of text = raw_lines (without_mark text)

-- the lines of events
abbrev pub event_lines : List ℕ → List (List ℕ)
event_lines text = filter is_event_line (lines_of text)
