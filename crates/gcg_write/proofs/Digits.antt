-- Numbers as they are written, read again.
use Rattle.std.proofs.Common.{◌≡◌, ℕ, suc, ◌^◌, ◌<◌, ◌≤◌, true, ◌&&◌, List, [], ◌∷◌, length, nat_le, Some, if◌then◌else◌, ◌==◌, inl, inr, subst, arith, ap, refl, ◌∙◌, ℤ, pos, negsuc, neg_ℤ}
use Rattle.std.specs.Prelude.{decimal}
use Rattle.std.specs.List.{list_all}
use Rattle.std.specs.Char.{is_ascii_digit}
use Rattle.std.specs.Option.{option_map}
use Rattle.std.specs.Fmt.{signed_decimal}
use Rattle.std.specs.Str.Parse.{digits_value, AllDigits}
use Rattle.std.proofs.lemmas.Fmt.{decimal_is_IsNumeral, length-decimal-le}
use Rattle.std.proofs.lemmas.Str.Parse.{digit_from_value}
use Rattle.std.proofs.lemmas.Int.{ints}
use Rattle.std.proofs.lemmas.Bool.Decides.{nat_tests}
use Rattle.gcg_read.specs.Numerals.{IsPoints, is_numeral, numeral, points_of}
use Rattle.gcg_write.specs.Fields.{score_text}
use Rattle.gcg_write.proofs.Inversions.{both, le_from, chosen, one_of, mapped}
use Rattle.std.proofs.lemmas.Int.Digits.{digits_value-lt}
use Rattle.std.proofs.Math.Nat.{pow-le-pow_right}
use Rattle.gcg_write.proofs.Each.{Each}

-- '0' to '9'
abbrev pub IsDigit : ℕ → Type 0
IsDigit byte = (48 ≤ byte) × (byte ≤ 57)

each_digit : (ds : List ℕ) → AllDigits 10 ds → Each IsDigit ds
each_digit [] h = tt
each_digit (d ∷ ds) h = let range = digit_from_value d h.0 in ((range.0, range.1), each_digit ds h.1)

pub is_digit_true : (byte : ℕ) → IsDigit byte → is_ascii_digit byte ≡ true
is_digit_true byte h = grind (arith, nat_tests)

pub all_digits : (ds : List ℕ) → Each IsDigit ds → list_all is_ascii_digit ds ≡ true
all_digits [] h = refl
all_digits (d ∷ ds) h = rw (is_digit_true d h.0, all_digits ds h.1) refl

pub digits_each : (n : ℕ) → n < 2 ^ 64 → Each IsDigit (decimal n)
digits_each n h = let facts = decimal_is_IsNumeral n h in each_digit (decimal n) facts.0.1

pub digits_some : (n : ℕ) → n < 2 ^ 64 → 0 < length (decimal n)
digits_some n h = let facts = decimal_is_IsNumeral n h in facts.0.0

pub le_true : (a b : ℕ) → a ≤ b → nat_le a b ≡ true
le_true a b h = grind (arith, nat_tests)

-- a number of at most `most` digits
pub numeral_decimal : (most n : ℕ) → 0 < most → n < 10 ^ most → n < 2 ^ 64 → numeral most (decimal n) ≡ Some n
numeral_decimal most n some small fits =
    let facts = decimal_is_IsNumeral n fits in
    rw (
      le_true 1 (length (decimal n)) (digits_some n fits),
      le_true (length (decimal n)) most (length-decimal-le most n some small fits),
      all_digits (decimal n) (digits_each n fits),
    )
    (ap Some facts.1)

-- digits after no sign
unsigned : (digits : List ℕ) → 0 < length digits → Each IsDigit digits → points_of digits ≡ option_map pos (numeral 6 digits)
unsigned [] some h = absurd (omega arith)
unsigned (d ∷ ds) some h = let low = h.0.0 in let high = h.0.1 in grind (arith, nat_tests)

six : (n : ℕ) → n < 1000000 → numeral 6 (decimal n) ≡ Some n
six n h = numeral_decimal 6 n (omega arith) (omega arith) (omega arith)

pub points_total : (z : ℤ) → IsPoints z → points_of (signed_decimal z) ≡ Some z
points_total (pos n) h =
    let small : n < 1000000 = omega (arith, ints, h.0, h.1) in
    unsigned (decimal n) (digits_some n (omega arith)) (digits_each n (omega arith)) ∙ rw (six n small) refl
points_total (negsuc n) h =
    let small : suc n < 1000000 = omega (arith, ints, h.0, h.1) in
    rw (six (suc n) small) refl

pub points_score : (z : ℤ) → IsPoints z → points_of (score_text z) ≡ Some z
points_score (pos n) h =
    let small : n < 1000000 = omega (arith, ints, h.0, h.1) in
    rw (six n small) refl
points_score (negsuc n) h = points_total (negsuc n) h

-- ---- what is read as a number

digits_all : (ds : List ℕ) → list_all is_ascii_digit ds ≡ true → AllDigits 10 ds
digits_all [] h = tt
digits_all (d ∷ ds) h =
    let parts = both (is_ascii_digit d) (list_all is_ascii_digit ds) h in
    let here = parts.0 in
    (grind (arith, nat_tests), digits_all ds parts.1)

pub numeral_small : (most : ℕ) (digits : List ℕ) (n : ℕ) → numeral most digits ≡ Some n → n < 10 ^ most
numeral_small most digits n e =
    let taken = chosen (is_numeral most digits) (digits_value 10 digits) n e in
    let outer = both (nat_le 1 (length digits) && nat_le (length digits) most) (list_all is_ascii_digit digits) taken.0 in
    let inner = both (nat_le 1 (length digits)) (nat_le (length digits) most) outer.0 in
    let power : 10 ^ length digits ≤ 10 ^ most = pow-le-pow_right (omega arith) (le_from (length digits) most inner.1) in
    let value = digits_value-lt 10 digits (digits_all digits outer.1) in
    omega (arith, taken.1)

points_from : (digits : List ℕ) (z : ℤ) → option_map pos (numeral 6 digits) ≡ Some z → IsPoints z
points_from digits z e =
    let read = mapped pos (numeral 6 digits) z e in
    let small : read.0 < 1000000 = numeral_small 6 digits read.0 read.1.0 in
    subst IsPoints read.1.1 (omega (arith, ints), omega (arith, ints))

points_below : (digits : List ℕ) (z : ℤ) → option_map (λ n. neg_ℤ (pos n)) (numeral 6 digits) ≡ Some z → IsPoints z
points_below digits z e =
    let read = mapped (λ n. neg_ℤ (pos n)) (numeral 6 digits) z e in
    let small : read.0 < 1000000 = numeral_small 6 digits read.0 read.1.0 in
    subst IsPoints read.1.1 (omega (arith, ints), omega (arith, ints))

pub points_read : (bytes : List ℕ) (z : ℤ) → points_of bytes ≡ Some z → IsPoints z
points_read [] z e = absurd cc
points_read (byte ∷ bytes) z e =
    elim (one_of (byte == 43) (option_map pos (numeral 6 bytes)) (if byte == 45 then option_map (λ n. neg_ℤ (pos n)) (numeral 6 bytes) else option_map pos (numeral 6 (byte ∷ bytes))) z e) [
      | inl plus ↦ points_from bytes z plus
      | inr other ↦ elim (one_of (byte == 45) (option_map (λ n. neg_ℤ (pos n)) (numeral 6 bytes)) (option_map pos (numeral 6 (byte ∷ bytes))) z other) [
        | inl minus ↦ points_below bytes z minus
        | inr plain ↦ points_from (byte ∷ bytes) z plain
      ]
    ]
