-- Fields in a row that are a position or a code, and two numbers.
use Rattle.std.specs.Prelude.{ℕ, Bool, false, ◌&&◌, ◌||◌, List, [], ◌∷◌, codes, is_some, if◌then◌else◌}
use Rattle.gcg_read.specs.Numerals.{points_of}
use Rattle.gcg_unread.specs.Readings.{read_with}

-- the first two fields are numbers
abbrev pub are_numbers : List (List ℕ) → Bool
are_numbers [] = false
are_numbers (first ∷ []) = false
are_numbers (first ∷ second ∷ fields) = is_some (points_of first) && is_some (points_of second)

-- the fields after the first
abbrev pub after_first : List (List ℕ) → List (List ℕ)
after_first [] = []
after_first (first ∷ fields) = fields

-- a field is a code: with a score and a total after it there is an event
abbrev pub is_code : List ℕ → Bool
is_code field = read_with field (codes " 0 0")

-- a field is a position: with a word, a score and a total after it there is an event
abbrev pub is_position : List ℕ → Bool
is_position field = read_with field (codes " A 0 0")

-- a code and two numbers, or a position and two numbers, with or without a word between
abbrev pub is_move : List ℕ → List (List ℕ) → Bool
is_move first fields =
    if are_numbers fields then is_code first || is_position first
    else are_numbers (after_first fields) && is_position first

-- from some field on
abbrev pub has_move : List (List ℕ) → Bool
has_move [] = false
has_move (first ∷ fields) = is_move first fields || has_move fields
