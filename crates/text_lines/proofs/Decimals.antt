-- Digits read one after another.
use Rattle.std.proofs.Common.{◌≡◌, ℕ, ◌+◌, ◌-◌, ◌*◌, ◌^◌, ◌<◌, add-one, ◌≤◌, Bool, true, false, List, length, get_or, take, arith, refl}
use Rattle.std.specs.List.{list_all}
use Rattle.std.specs.Char.{is_ascii_digit, digit_value}
use Rattle.std.specs.Str.Parse.{digits_value}
use Rattle.std.proofs.lemmas.Bool.Decides.{nat_tests}
use Rattle.std.proofs.lemmas.List.Folds.{list_all_at}
use Rattle.std.proofs.lemmas.Int.Digits.{digits_value_more}
use Rattle.std.proofs.Math.Nat.{pow-le-pow_right, pow-suc}

pub ten_more : (i : ℕ) → 10 ^ (i + 1) ≡ 10 * 10 ^ i
ten_more i = rw add-one (omega (arith, pow-suc 10 i))

pub ten_bound : (i : ℕ) → i ≤ 6 → 10 ^ i ≤ 1000000
ten_bound i h = pow-le-pow_right (omega arith) h

pub record IsDecimal (byte : ℕ) : Type 0 where
  pub low : 48 ≤ byte
  pub high : byte ≤ 57
  pub value : digit_value byte ≡ byte - 48

pub is_decimal : (byte : ℕ) → is_ascii_digit byte ≡ true → IsDecimal byte
is_decimal byte h = record { low = grind (arith, nat_tests); high = grind (arith, nat_tests); value = grind (arith, nat_tests) }

passes : (b : Bool) → (b ≡ false → ⊥) → b ≡ true
passes true h = refl
passes false h = absurd (h refl)

-- a byte of the digits
pub digit_in : (digits : List ℕ) (i : ℕ) → list_all is_ascii_digit digits ≡ true → i < length digits → IsDecimal (get_or digits i 0)
digit_in digits i h lt =
    is_decimal (get_or digits i 0) (passes (is_ascii_digit (get_or digits i 0)) (λ e. let f = list_all_at is_ascii_digit digits i 0 lt e in cc))

-- one more digit
pub record IsNext (digits : List ℕ) (i next : ℕ) : Type 0 where
  pub value : next ≡ digits_value 10 (take (i + 1) digits)
  pub small : next < 10 ^ (i + 1)

pub value_more : (digits : List ℕ) (i value : ℕ) → list_all is_ascii_digit digits ≡ true → i < length digits
    → value ≡ digits_value 10 (take i digits) → value < 10 ^ i
    → IsNext digits i (value * 10 + (get_or digits i 0 - 48))
value_more digits i value h lt e small =
    let d = digit_in digits i h lt in
    record {
      value = omega (arith, digits_value_more 10 digits i lt, d.value);
      small = omega (arith, ten_more i, d.low, d.high);
    }
