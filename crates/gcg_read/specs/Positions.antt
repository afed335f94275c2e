-- Positions of plays, as the bytes of a record write them.
use Rattle.std.specs.Prelude.{ℕ, ◌-◌, ◌&&◌, nat_le, List, [], ◌∷◌, length, take, slice_index, Option, Some, None, if◌then◌else◌}
use Rattle.std.specs.Option.{option_and_then, option_map}
use Rattle.std.specs.Char.{is_ascii_digit}
use Rattle.ref_tiles.specs.Statements.{row_in}
use Rattle.ref_board.specs.Lines.{square_in}
use Rattle.ref_board.specs.declared.directions.Dir.TheVariants.{Across, Down}
use Rattle.gcg_read.specs.declared.positions.Position.{Position}

-- a column, A to O in either case, counted from 0
abbrev pub column_of : ℕ → Option ℕ
column_of byte =
    if nat_le 65 byte && nat_le byte 79 then Some (byte - 65)
    else (if nat_le 97 byte && nat_le byte 111 then Some (byte - 97) else None)

-- a row and then a column: across
abbrev pub across_of : List ℕ → ℕ → Option Position
across_of digits letter =
    option_and_then (λ row. option_map (λ column. record { at = square_in row column; dir = Across }) (column_of letter)) (row_in digits)

-- a column and then a row: down
abbrev pub down_of : ℕ → List ℕ → Option Position
down_of letter digits =
    option_and_then (λ row. option_map (λ column. record { at = square_in row column; dir = Down }) (column_of letter)) (row_in digits)

-- What begins with a digit is a row and then a column, and anything else a column and then a row.
abbrev pub position_of : List ℕ → Option Position
position_of [] = None
position_of (byte ∷ bytes) =
    if is_ascii_digit byte then across_of (take (length bytes) (byte ∷ bytes)) (slice_index (byte ∷ bytes) (length bytes))
    else down_of byte bytes
