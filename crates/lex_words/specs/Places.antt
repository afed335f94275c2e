-- What is kept of a text that is read byte by byte.
use Rattle.std.specs.Prelude.{◌≡◌, ℕ, Bool, true, false, ◌==◌, ◌||◌, List, [], ◌∷◌, ◌++◌, map, Option, Some, None, option_map, if◌then◌else◌}
use Rattle.std.specs.List.{join_with_byte, slice_split, take_while}
use Rattle.text_lines.specs.Fields.{is_blank}
use Rattle.text_lines.specs.Lines.{is_feed}
use Rattle.lex_words.specs.Fields.{is_solid, first_field}
use Rattle.lex_words.specs.declared.places.Place.{Place}
use Rattle.lex_words.specs.declared.places.Place.TheVariants.{Beginning, Field, After}

-- what is kept of the rest of a line from a place in it on
unfoldable pub rest_of : Place → List ℕ → List ℕ
rest_of Beginning line = first_field line
rest_of Field line = take_while is_solid line
rest_of After line = []

-- the same for lines, of which the first is read from a place in it on
unfoldable pub rests_of : Place → List (List ℕ) → List (List ℕ)
rests_of place [] = []
rests_of place (line ∷ lines) = rest_of place line ∷ map first_field lines

-- what is kept of a text that is read from a place in its first line on
unfoldable pub fields_from : Place → List ℕ → List ℕ
fields_from place text = join_with_byte 10 (rests_of place (slice_split is_feed text))

-- what is left of a text to be given out, from a place in its first line on; without a place, it is given as it is
abbrev pub remaining_by : Option Place → Option (List ℕ) → Option (List ℕ)
remaining_by None remaining = remaining
remaining_by (Some place) remaining = option_map (fields_from place) remaining

-- the place after a byte that does not end a line
unfoldable pub place_within : Place → ℕ → Place
place_within Beginning byte = if byte == 35 || is_blank byte then After else Field
place_within Field byte = if is_blank byte then After else Field
place_within After byte = After

-- the place after a byte
unfoldable pub place_after : Place → ℕ → Place
place_after place byte = if byte == 10 then Beginning else place_within place byte

abbrev pub is_field : Place → Bool
is_field Beginning = false
is_field Field = true
is_field After = false

-- what is kept of a byte: it ends a line, or is in its first field
unfoldable pub kept_of : Place → ℕ → List ℕ
kept_of place byte = if byte == 10 || is_field (place_within place byte) then byte ∷ [] else []

-- a front of a text that was read from a place on: what is kept of it, and the place after it
abbrev pub IsKept : Place → List ℕ → Place → List ℕ → Type 0
IsKept place front next kept = (rest : List ℕ) → fields_from place (front ++ rest) ≡ kept ++ fields_from next rest
