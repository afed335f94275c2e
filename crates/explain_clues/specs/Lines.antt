-- A line of a text by its number.
use Rattle.std.specs.Prelude.{ℕ, zero, suc, List, Option, None, slice_get}
use Rattle.text_lines.specs.Lines.{without_mark, lines_in}

-- the line of a text with a number, counted from 1; a byte order mark at the front of the text is not part of it
abbrev pub line_of : (text : List ℕ) → (number : ℕ) → Option (List ℕ)
line_of text zero = None
line_of text (suc k) = slice_get (lines_in (without_mark text)) k
