-- The view of a last field, and bytes that are all blanks, or none of which is a blank.
use Rattle.std.specs.Prelude.{◌≡◌, ℕ, Bool, List, [], ◌∷◌, Option, Some, None}
use Rattle.text_lines.specs.Fields.{is_blank}
use Rattle.gcg_numbers.specs.declared.cutting.Last.{Last as Found}
use Rattle.gcg_numbers.specs.Numbers.{Last}

abbrev pub seen : Option Found → Option Last
seen None = None
seen (Some found) = Some (record { front = found.front.now; field = found.field.now; back = found.back.now })

-- each byte is a blank, or none is
abbrev pub AreOf : Bool → List ℕ → Type 0
AreOf blank [] = Unit {0}
AreOf blank (byte ∷ bytes) = (is_blank byte ≡ blank) × AreOf blank bytes
