-- How a line falls into fields.
use Rattle.std.specs.Prelude.{ℕ, Bool, not, ◌||◌, ◌==◌, List, [], ◌∷◌, length, Option, Some, None}
use Rattle.std.specs.List.{filter, slice_split}
use Rattle.text_lines.specs.declared.fields.Field.{Field}

-- a space or a tab
abbrev pub is_blank : ℕ → Bool
is_blank byte = byte == 32 || byte == 9

abbrev pub is_filled : List ℕ → Bool
is_filled field = not (length field == 0)

-- the fields of a text, separated by runs of spaces and tabs
unfoldable pub fields_of : List ℕ → List (List ℕ)
fields_of text = filter is_filled (slice_split is_blank text)

-- ---- what the reader cuts off

-- a field, and the fields of what follows it
abbrev pub fields_from : Option Field → List (List ℕ)
fields_from None = []
fields_from (Some field) = field.bytes.now ∷ fields_of field.after.now
