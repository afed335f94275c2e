-- Numbers as digits write them.
use Rattle.std.specs.Prelude.{ℕ, Bool, ◌&&◌, nat_le, List, length, Option, Some, None, if◌then◌else◌}
use Rattle.std.specs.List.{list_all}
use Rattle.std.specs.Char.{is_ascii_digit}
use Rattle.std.specs.Str.Parse.{digits_value}

-- 1 to `most` digits
abbrev pub is_numeral : ℕ → List ℕ → Bool
is_numeral most bytes = nat_le 1 (length bytes) && nat_le (length bytes) most && list_all is_ascii_digit bytes

-- the number that 1 to `most` digits write
abbrev pub numeral : ℕ → List ℕ → Option ℕ
numeral most digits = if is_numeral most digits then Some (digits_value 10 digits) else None
