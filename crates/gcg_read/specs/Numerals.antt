-- Numbers as the bytes of a record write them.
use Rattle.std.specs.Prelude.{ℕ, ℤ, pos, neg_ℤ, ◌≤ℤ◌, ◌==◌, List, [], ◌∷◌, Option, None, if◌then◌else◌}
use Rattle.std.specs.Option.{option_map}
pub use Rattle.text_lines.specs.Numerals.{is_numeral, numeral}

-- from -999,999 to 999,999
abbrev pub IsPoints : ℤ → Type 0
IsPoints n = (neg_ℤ (pos 999999) ≤ℤ n) × (n ≤ℤ pos 999999)

-- an optional '+' (43) or '-' (45), and then 1 to 6 digits
abbrev pub points_of : List ℕ → Option ℤ
points_of [] = None
points_of (byte ∷ bytes) =
    if byte == 43 then option_map pos (numeral 6 bytes)
    else (if byte == 45 then option_map (λ n. neg_ℤ (pos n)) (numeral 6 bytes) else option_map pos (numeral 6 (byte ∷ bytes)))
