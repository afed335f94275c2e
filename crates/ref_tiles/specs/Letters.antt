-- Letters, by their place in the alphabet and by the bytes that write them.
use Rattle.std.specs.Prelude.{◌≡◌, ℕ, ◌-◌, Bool, true, false, nat_lt, nat_le, Option, Some, None, if◌then◌else◌, refl}
use Rattle.std.proofs.Common.{ltb-true}
use Rattle.ref_tiles.specs.declared.letters.Letter.{Letter}

abbrev pub letter_if : (n : ℕ) (b : Bool) → nat_lt n 26 ≡ b → Option Letter
letter_if n true below = Some (record { index = n; in_range = ltb-true n 26 below })
letter_if n false past = None

-- the letter at this place, 0 for A to 25 for Z
unfoldable pub letter_at : ℕ → Option Letter
letter_at n = letter_if n (nat_lt n 26) refl

-- the letter that this byte writes, if `first` writes A
abbrev pub letter_from : ℕ → ℕ → Option Letter
letter_from first byte = if nat_le first byte then letter_at (byte - first) else None
