-- Positions as they are written, read again.
use Rattle.std.proofs.Common.{◌≡◌, ℕ, ◌+◌, ◌-◌, ◌*◌, ◌/◌, ◌%◌, ◌<◌, Bool, true, false, ◌&&◌, List, [], ◌∷◌, ◌++◌, length, take, get_or, nat_le, Some, None, if◌then◌else◌, arith, ap, refl, ◌∙◌, inl, inr}
use Rattle.std.specs.Prelude.{decimal}
use Rattle.std.specs.Char.{is_ascii_digit}
use Rattle.std.specs.Option.{option_map, option_and_then}
use Rattle.std.proofs.lemmas.Bool.Decides.{nat_tests}
use Rattle.ref_tiles.specs.Statements.{row_in}
use Rattle.ref_board.specs.Lines.{square_in}
use Rattle.ref_board.specs.declared.directions.Dir.{Dir}
use Rattle.ref_board.specs.declared.directions.Dir.TheVariants.{Across, Down}
use Rattle.gcg_read.specs.declared.positions.Position.{Position}
use Rattle.gcg_read.specs.Numerals.{numeral}
use Rattle.gcg_read.specs.Positions.{column_of, across_of, down_of, position_of}
use Rattle.gcg_write.specs.Fields.{row_text, column_byte, position_text}
use Rattle.gcg_write.proofs.Each.{Each}
use Rattle.gcg_write.proofs.Inversions.{both, le_from, chosen, chosen_or, one_of, chained, mapped}
use Rattle.gcg_write.proofs.Digits.{IsDigit, is_digit_true, digits_each, digits_some, numeral_decimal}

front_of : (d : ℕ) (ds : List ℕ) (c : ℕ) → take (length (ds ++ c ∷ [])) (d ∷ (ds ++ c ∷ [])) ≡ d ∷ ds
front_of d [] c = refl
front_of d (e ∷ es) c = ap (λ (rest : List ℕ). d ∷ rest) (front_of e es c)

last_of : (d : ℕ) (ds : List ℕ) (c : ℕ) → get_or (d ∷ (ds ++ c ∷ [])) (length (ds ++ c ∷ [])) 0 ≡ c
last_of d [] c = refl
last_of d (e ∷ es) c = last_of e es c

lead : (d : ℕ) (rest : List ℕ) → is_ascii_digit d ≡ true → position_of (d ∷ rest) ≡ across_of (take (length rest) (d ∷ rest)) (get_or (d ∷ rest) (length rest) 0)
lead d rest e = ap (λ (b : Bool). if b then across_of (take (length rest) (d ∷ rest)) (get_or (d ∷ rest) (length rest) 0) else down_of d rest) e

across_read : (digits : List ℕ) (c : ℕ) → 0 < length digits → Each IsDigit digits → position_of (digits ++ c ∷ []) ≡ across_of digits c
across_read [] c some h = absurd (omega arith)
across_read (d ∷ ds) c some h =
    lead d (ds ++ c ∷ []) (is_digit_true d h.0) ∙ ap (λ (digits : List ℕ). across_of digits (get_or (d ∷ (ds ++ c ∷ [])) (length (ds ++ c ∷ [])) 0)) (front_of d ds c)
    ∙ ap (λ (letter : ℕ). across_of (d ∷ ds) letter) (last_of d ds c)

not_digit : (c : ℕ) → is_ascii_digit (65 + c) ≡ false
not_digit c = grind (arith, nat_tests)

within : (n : ℕ) → n < 15 → (nat_le 1 (n + 1) && nat_le (n + 1) 15) ≡ true
within n h = grind (arith, nat_tests)

row_again : (n : ℕ) → n < 15 → row_in (decimal (n + 1)) ≡ Some n
row_again n h =
    let read = numeral_decimal 2 (n + 1) (omega arith) (omega arith) (omega arith) in
    rw (read, within n h) (ap Some (omega arith))

sub_front : (m n : ℕ) → m + n - m ≡ n
sub_front m n = omega arith

column_again : (n : ℕ) → n < 15 → column_of (65 + n) ≡ Some n
column_again n h = grind (arith, nat_tests, sub_front 65 n)

whole_square : (at : ℕ) → 15 * (at / 15) + at % 15 ≡ at
whole_square at = omega arith

pub position_again : (at : ℕ) (dir : Dir) → at < 225 → position_of (position_text at dir) ≡ Some (record { at = at; dir = dir })
position_again at Across h =
    let row : at / 15 < 15 = omega arith in
    let column : at % 15 < 15 = omega arith in
    across_read (row_text at) (column_byte at) (digits_some (at / 15 + 1) (omega arith)) (digits_each (at / 15 + 1) (omega arith))
    ∙ rw (row_again (at / 15) row, column_again (at % 15) column, whole_square at) refl
position_again at Down h =
    let row : at / 15 < 15 = omega arith in
    let column : at % 15 < 15 = omega arith in
    rw (not_digit (at % 15), row_again (at / 15) row, column_again (at % 15) column, whole_square at) refl

-- ---- what is read as a position

row_small : (digits : List ℕ) (row : ℕ) → row_in digits ≡ Some row → row < 15
row_small digits row e =
    let read = chained (λ n. if nat_le 1 n && nat_le n 15 then Some (n - 1) else None) (numeral 2 digits) row e in
    let n = read.0 in
    let taken = chosen (nat_le 1 n && nat_le n 15) (n - 1) row read.1.1 in
    let parts = both (nat_le 1 n) (nat_le n 15) taken.0 in
    omega (arith, le_from 1 n parts.0, le_from n 15 parts.1, taken.1)

column_small : (byte column : ℕ) → column_of byte ≡ Some column → column < 15
column_small byte column e =
    elim (chosen_or (nat_le 65 byte && nat_le byte 79) (byte - 65) column (if nat_le 97 byte && nat_le byte 111 then Some (byte - 97) else None) e) [
      | inl taken ↦
          let parts = both (nat_le 65 byte) (nat_le byte 79) taken.0 in
          omega (arith, le_from 65 byte parts.0, le_from byte 79 parts.1, taken.1)
      | inr other ↦
          let taken = chosen (nat_le 97 byte && nat_le byte 111) (byte - 97) column other in
          let parts = both (nat_le 97 byte) (nat_le byte 111) taken.0 in
          omega (arith, le_from 97 byte parts.0, le_from byte 111 parts.1, taken.1)
    ]

spot_small : (dir : Dir) (digits : List ℕ) (letter : ℕ) (place : Position)
    → option_and_then (λ row. option_map (λ column. let spot : Position = record { at = square_in row column; dir = dir } in spot) (column_of letter)) (row_in digits) ≡ Some place
    → place.at < 225
spot_small dir digits letter place e =
    let outer = chained (λ row. option_map (λ column. let spot : Position = record { at = square_in row column; dir = dir } in spot) (column_of letter)) (row_in digits) place e in
    let inner = mapped (λ column. let spot : Position = record { at = square_in outer.0 column; dir = dir } in spot) (column_of letter) place outer.1.1 in
    let square : square_in outer.0 inner.0 ≡ place.at = ap (λ (p : Position). p.at) inner.1.1 in
    omega (arith, row_small digits outer.0 outer.1.0, column_small letter inner.0 inner.1.0, square)

pub position_read : (bytes : List ℕ) (place : Position) → position_of bytes ≡ Some place → place.at < 225
position_read [] place e = absurd cc
position_read (byte ∷ bytes) place e =
    elim (one_of (is_ascii_digit byte) (across_of (take (length bytes) (byte ∷ bytes)) (get_or (byte ∷ bytes) (length bytes) 0)) (down_of byte bytes) place e) [
      | inl across ↦ spot_small Across (take (length bytes) (byte ∷ bytes)) (get_or (byte ∷ bytes) (length bytes) 0) place across
      | inr down ↦ spot_small Down bytes byte place down
    ]
