-- The first fields of the lines of a text.
use Rattle.std.specs.Prelude.{ℕ, Bool, not, false, ◌==◌, List, [], ◌∷◌, map, if◌then◌else◌}
use Rattle.std.specs.List.{join_with_byte, slice_split, take_while}
use Rattle.text_lines.specs.Fields.{is_blank}
use Rattle.text_lines.specs.Lines.{is_feed}

-- a line that begins with `#` (35) is a remark
unfoldable pub is_remark : List ℕ → Bool
is_remark [] = false
is_remark (byte ∷ line) = byte == 35

-- neither a space nor a tab
abbrev pub is_solid : ℕ → Bool
is_solid byte = not (is_blank byte)

-- the first field of a line, up to its first space or tab; a remark has none
unfoldable pub first_field : List ℕ → List ℕ
first_field line = if is_remark line then [] else take_while is_solid line

-- a text with the first field of each line in place of the line
unfoldable pub first_fields : List ℕ → List ℕ
first_fields text = join_with_byte 10 (map first_field (slice_split is_feed text))
