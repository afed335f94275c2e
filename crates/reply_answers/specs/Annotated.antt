-- How many best plays a note has.
use Rattle.std.specs.Prelude.{ℕ, Option, Some, None}

-- one, unless a number is given
abbrev pub notes_asked : Option ℕ → ℕ
notes_asked None = 1
notes_asked (Some number) = number
