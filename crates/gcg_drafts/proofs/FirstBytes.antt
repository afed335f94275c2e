-- How the first bytes of a code, a position and a rack tell them apart.
use Rattle.std.proofs.Common.{◌≡◌, ℕ, ◌-◌, ◌==◌, ◌≤◌, Bool, true, false, not, ◌&&◌, ◌||◌, nat_le, get_or, List, [], ◌∷◌, length, take, codes, is_some, Option, Some, None, if◌then◌else◌, ◌⊎◌, inl, inr, arith, refl, sym, ap, subst, ◌∙◌}
use Rattle.std.specs.List.{list_all}
use Rattle.std.specs.Char.{is_ascii_digit}
use Rattle.std.specs.Option.{option_map, option_and_then}
use Rattle.std.specs.Str.{bytes_eq}
use Rattle.std.proofs.lemmas.Bool.Decides.{nat_tests}
use Rattle.std.proofs.lemmas.Slice.Eq.{bytes_eq-Decides}
use Rattle.ref_tiles.specs.Statements.{row_in}
use Rattle.ref_tiles.specs.Letters.{letter_at}
use Rattle.ref_tiles.specs.declared.kinds.Kind.TheVariants as tile
use Rattle.ref_board.specs.Lines.{square_in}
use Rattle.ref_board.specs.declared.directions.Dir.{Dir}
use Rattle.ref_board.specs.declared.directions.Dir.TheVariants.{Across, Down}
use Rattle.text_lines.specs.Numerals.{is_numeral, numeral}
use Rattle.gcg_read.specs.declared.events.EventKind.{EventKind}
use Rattle.gcg_read.specs.declared.events.EventKind.TheVariants as kind
use Rattle.gcg_read.specs.declared.positions.Position.{Position}
use Rattle.gcg_read.specs.Codes.{dashed_of, bracketed_of, opened_of, code_of}
use Rattle.gcg_read.specs.EventLines.{has_digit}
use Rattle.gcg_read.specs.Positions.{column_of, across_of, down_of, position_of}
use Rattle.gcg_read.specs.Racks.{is_tile, is_rack, rack_of, kind_of}
use Rattle.gcg_write.proofs.Inversions.{both, chosen, chosen_or, chained, mapped, some_same, le_from}
use Rattle.gcg_drafts.specs.Lacks.{is_code, is_place, needs_score}
use Rattle.gcg_drafts.specs.Laws.{IsOfChoice}

-- ---- a code

code_by : (a b : Bool) (x y : Option EventKind) (k : EventKind) → (if a then x else (if b then y else None)) ≡ Some k → (a || b) ≡ true
code_by true b x y k e = refl
code_by false true x y k e = refl
code_by false false x y k e = absurd cc

pub code_opens : (bytes : List ℕ) (k : EventKind) → code_of bytes ≡ Some k → is_code bytes ≡ true
code_opens [] k e = absurd cc
code_opens (byte ∷ bytes) k e = code_by (byte == 45) (byte == 40) (dashed_of bytes) (opened_of bytes) k e

challenge_is : code_of (codes "(challenge)") ≡ Some kind.Challenge
unfolding dashed_of bracketed_of letter_at
challenge_is = refl

time_is : code_of (codes "(time)") ≡ Some kind.Time
unfolding dashed_of bracketed_of letter_at
time_is = refl

needs_by : (bytes : List ℕ) (k : EventKind) (a b : Bool) → bytes_eq bytes (codes "(challenge)") ≡ a → bytes_eq bytes (codes "(time)") ≡ b → (a || b) ≡ true
    → code_of bytes ≡ Some k → IsOfChoice k
needs_by bytes k true b p q e read =
    let same : bytes ≡ codes "(challenge)" = (bytes_eq-Decides bytes (codes "(challenge)")).0 p in
    inl (sym (some_same kind.Challenge k (sym challenge_is ∙ ap code_of (sym same) ∙ read)))
needs_by bytes k false true p q e read =
    let same : bytes ≡ codes "(time)" = (bytes_eq-Decides bytes (codes "(time)")).0 q in
    inr (sym (some_same kind.Time k (sym time_is ∙ ap code_of (sym same) ∙ read)))
needs_by bytes k false false p q e read = absurd cc

-- what needs its score is a challenge or a penalty
pub needs_choice : (bytes : List ℕ) (k : EventKind) → needs_score bytes ≡ true → code_of bytes ≡ Some k → IsOfChoice k
needs_choice bytes k e read = needs_by bytes k (bytes_eq bytes (codes "(challenge)")) (bytes_eq bytes (codes "(time)")) refl refl e read

-- ---- a position

digit_first : (byte : ℕ) → is_ascii_digit byte ≡ true → (byte == 45 || byte == 40) ≡ false
digit_first byte e = grind (arith, nat_tests)

letter_by : (byte column : ℕ) → column_of byte ≡ Some column → (byte == 45 || byte == 40) ≡ false
letter_by byte column e =
    elim (chosen_or (nat_le 65 byte && nat_le byte 79) (byte - 65) column (if nat_le 97 byte && nat_le byte 111 then Some (byte - 97) else None) e) [
      | inl taken ↦
          let parts = both (nat_le 65 byte) (nat_le byte 79) taken.0 in
          let low = le_from 65 byte parts.0 in
          grind (arith, nat_tests)
      | inr other ↦
          let taken = chosen (nat_le 97 byte && nat_le byte 111) (byte - 97) column other in
          let parts = both (nat_le 97 byte) (nat_le byte 111) taken.0 in
          let low = le_from 97 byte parts.0 in
          grind (arith, nat_tests)
    ]

all_any : (bytes : List ℕ) → nat_le 1 (length bytes) ≡ true → list_all is_ascii_digit bytes ≡ true → has_digit bytes ≡ true
all_any [] some all = absurd cc
all_any (byte ∷ bytes) some all =
    let parts = both (is_ascii_digit byte) (list_all is_ascii_digit bytes) all in
    ap (λ b. b || has_digit bytes) parts.0

row_digit : (digits : List ℕ) (row : ℕ) → row_in digits ≡ Some row → has_digit digits ≡ true
row_digit digits row e =
    let read = chained (λ n. if nat_le 1 n && nat_le n 15 then Some (n - 1) else None) (numeral 2 digits) row e in
    let is = chosen (is_numeral 2 digits) _ read.0 read.1.0 in
    let parts = both (nat_le 1 (length digits) && nat_le (length digits) 2) (list_all is_ascii_digit digits) is.0 in
    all_any digits (both (nat_le 1 (length digits)) (nat_le (length digits) 2) parts.0).0 parts.1

or_true : (a b : Bool) → b ≡ true → (a || b) ≡ true
or_true true b e = refl
or_true false b e = e

place_by : (byte : ℕ) (bytes : List ℕ) (place : Position) (b : Bool) → is_ascii_digit byte ≡ b
    → (if b then across_of (take (length bytes) (byte ∷ bytes)) (get_or (byte ∷ bytes) (length bytes) 0) else down_of byte bytes) ≡ Some place
    → ((byte == 45 || byte == 40) ≡ false) × (has_digit (byte ∷ bytes) ≡ true)
place_by byte bytes place true e read = (digit_first byte e, ap (λ b. b || has_digit bytes) e)
place_by byte bytes place false e read =
    let outer = chained (λ row. option_map (λ column. let spot : Position = record { at = square_in row column; dir = Down } in spot) (column_of byte)) (row_in bytes) place read in
    let inner = mapped (λ column. let spot : Position = record { at = square_in outer.0 column; dir = Down } in spot) (column_of byte) place outer.1.1 in
    (letter_by byte inner.0 inner.1.0, or_true (is_ascii_digit byte) (has_digit bytes) (row_digit bytes outer.0 outer.1.0))

-- a position is not a code, and has a digit
pub place_opens : (bytes : List ℕ) (place : Position) → position_of bytes ≡ Some place → (is_code bytes ≡ false) × (has_digit bytes ≡ true)
place_opens [] place e = absurd cc
place_opens (byte ∷ bytes) place e = place_by byte bytes place (is_ascii_digit byte) refl e

place_of : (a b : Bool) → a ≡ false → b ≡ true → (not a && b) ≡ true
place_of true b e f = absurd cc
place_of false b e f = f

pub is_placed : (bytes : List ℕ) (place : Position) → position_of bytes ≡ Some place → is_place bytes ≡ true
is_placed bytes place e = let o = place_opens bytes place e in place_of (is_code bytes) (has_digit bytes) o.0 o.1

pub not_placed : (bytes : List ℕ) → is_code bytes ≡ true → is_place bytes ≡ false
not_placed bytes e = ap (λ b. not b && has_digit bytes) e

-- ---- a rack

tile_by : (byte : ℕ) (b c : Bool) → (byte == 63) ≡ b → nat_le 65 byte ≡ c
    → is_some (if b then Some tile.Blank else option_map tile.Letter (if c then letter_at (byte - 65) else None)) ≡ true → 63 ≤ byte
tile_by byte true c e f h = grind (arith, nat_tests)
tile_by byte false true e f h = let low = le_from 65 byte f in omega arith
tile_by byte false false e f h = absurd cc

tile_low : (byte : ℕ) → is_tile byte ≡ true → (is_ascii_digit byte ≡ false) × ((byte == 45 || byte == 40) ≡ false)
tile_low byte h =
    let low : 63 ≤ byte = tile_by byte (byte == 63) (nat_le 65 byte) refl refl h in
    (grind (arith, nat_tests), grind (arith, nat_tests))

tiles_low : (bytes : List ℕ) → list_all is_tile bytes ≡ true → has_digit bytes ≡ false
tiles_low [] h = refl
tiles_low (byte ∷ bytes) h =
    let parts = both (is_tile byte) (list_all is_tile bytes) h in
    rw ((tile_low byte parts.0).0, tiles_low bytes parts.1) refl

first_low : (bytes : List ℕ) → list_all is_tile bytes ≡ true → is_code bytes ≡ false
first_low [] h = refl
first_low (byte ∷ bytes) h = (tile_low byte (both (is_tile byte) (list_all is_tile bytes) h).0).1

-- a rack is not a code, and has no digit
pub rack_opens : (bytes tiles : List ℕ) → rack_of bytes ≡ Some tiles → (is_code bytes ≡ false) × (has_digit bytes ≡ false)
rack_opens bytes tiles e =
    let is = chosen (is_rack bytes) _ tiles e in
    let parts = both (nat_le 1 (length bytes) && nat_le (length bytes) 7) (list_all is_tile bytes) is.0 in
    (first_low bytes parts.1, tiles_low bytes parts.1)
