-- The board of a record as a text of lines of at most 80 bytes.
use Rattle.std.specs.Prelude.{ℕ, ◌+◌, ◌*◌, List, [], ◌∷◌, ◌++◌, Option, Some, None, codes, decimal, slice_get, take, nat_lt, if◌then◌else◌}
use Rattle.std.specs.Fmt.{signed_decimal}
use Rattle.std.specs.List.{flat_map, range_with_len}
use Rattle.ref_tiles.specs.Kinds.{kind_at, kind_byte}
use Rattle.ref_tiles.specs.declared.tiles.Tile.{Tile}
use Rattle.ref_tiles.specs.declared.rulebook.Rules.{Rules}
use Rattle.ref_play.specs.declared.faults.PlayFault.{PlayFault}
use Rattle.ref_play.specs.Faults.{name_of}
use Rattle.gcg_read.specs.declared.events.Seat.{Seat}
use Rattle.gcg_read.specs.declared.events.Seat.TheVariants.{First, Second}
use Rattle.gcg_read.specs.declared.events.Event.{Event}
use Rattle.gcg_read.specs.declared.records.Record.{Record}
use Rattle.gcg_read.specs.Players.{player_of}
use Rattle.gcg_write.specs.Fields.{tiles_text}
use Rattle.game_corrections.specs.WrongNumbers.{had_before}
use Rattle.game_board.specs.Laying.{board_before}
use Rattle.game_board.specs.Marks.{square_mark}
use Rattle.game_board.specs.Tiles.{off_board, all_off}

-- ---- which board it is

-- the board before the line of an event, or after the last one
unfoldable pub place_text : Option Event → List ℕ
place_text None = codes "board after the last event"
place_text (Some e) = codes "board before line " ++ decimal e.line

-- why the play of the line cannot be laid
unfoldable pub refusal_text : PlayFault → List ℕ
refusal_text why = codes ", whose play cannot be laid: " ++ name_of why

-- the same if it cannot
unfoldable pub end_text : Option PlayFault → List ℕ
end_text None = 10 ∷ []
end_text (Some why) = refusal_text why ++ 10 ∷ []

abbrev pub heading_text : Option Event → Option PlayFault → List ℕ
heading_text e why = place_text e ++ end_text why

-- ---- the squares

-- the number of a row, counted from 1, in two places
unfoldable pub row_name : (row : ℕ) → List ℕ
row_name row = (if nat_lt row 9 then 32 ∷ [] else []) ++ decimal (row + 1)

-- the mark of a square of a row, after a space
abbrev pub cell_text : Rules → List (Option Tile) → (row column : ℕ) → List ℕ
cell_text rules board row column = 32 ∷ square_mark rules board (15 * row + column) ∷ []

-- the first squares of a row
unfoldable pub cells_text : Rules → List (Option Tile) → (row columns : ℕ) → List ℕ
cells_text rules board row columns = flat_map (cell_text rules board row) (range_with_len 0 columns)

-- the line of a row
unfoldable pub row_line : Rules → List (Option Tile) → (row : ℕ) → List ℕ
row_line rules board row = row_name row ++ cells_text rules board row 15 ++ 10 ∷ []

-- the lines of the first rows
unfoldable pub rows_text : Rules → List (Option Tile) → (rows : ℕ) → List ℕ
rows_text rules board rows = flat_map (row_line rules board) (range_with_len 0 rows)

unfoldable pub columns_line : List ℕ
columns_line = codes "   A B C D E F G H I J K L M N O\n"

unfoldable pub marks_lines : List ℕ
marks_lines = codes "= triple word, - double word, \" triple letter, ' double letter\nsmall letters are blanks\n"

-- the names of the columns, the rows, and what the marks mean
abbrev pub squares_text : Rules → List (Option Tile) → List ℕ
squares_text rules board = columns_line ++ rows_text rules board 15 ++ marks_lines

-- ---- the players

-- a nickname, of which at most 60 bytes are written
unfoldable pub short_nick : List ℕ → List ℕ
short_nick nick = take 60 nick

-- a player, and the last total written before a place
unfoldable pub player_line : Record → (place : ℕ) → Seat → List ℕ
player_line r place seat = short_nick (player_of r.players seat).nick ++ 32 ∷ signed_decimal (had_before r.events seat place) ++ 10 ∷ []

-- the rack of an event, if its line has one
abbrev pub stated_rack : Option (List ℕ) → List ℕ
stated_rack None = []
stated_rack (Some rack) = codes "rack " ++ tiles_text rack ++ 10 ∷ []

unfoldable pub rack_text : Option Event → List ℕ
rack_text None = []
rack_text (Some e) = stated_rack e.rack

abbrev pub players_text : Record → (place : ℕ) → List ℕ
players_text r place =
    player_line r place First ++ player_line r place Second ++ rack_text (slice_get r.events place)

-- ---- the tiles that are not on the board

-- a kind and a number of its tiles
abbrev pub counted_kind : (number tiles : ℕ) → List ℕ
counted_kind number tiles = 32 ∷ 32 ∷ kind_byte (kind_at number) ∷ 32 ∷ decimal tiles

-- a kind and the number of its tiles that are not on the board; nine kinds are on a line
abbrev pub kind_text : Rules → List (Option Tile) → (number : ℕ) → List ℕ
kind_text rules board number = counted_kind number (off_board rules board number)

unfoldable pub kinds_text : Rules → List (Option Tile) → (first many : ℕ) → List ℕ
kinds_text rules board first many = flat_map (kind_text rules board) (range_with_len first many)

unfoldable pub kinds_line : Rules → List (Option Tile) → (first : ℕ) → List ℕ
kinds_line rules board first = kinds_text rules board first 9 ++ 10 ∷ []

unfoldable pub count_line : Rules → List (Option Tile) → List ℕ
count_line rules board = codes "tiles not on the board: " ++ decimal (all_off rules board 27) ++ 10 ∷ []

abbrev pub off_text : Rules → List (Option Tile) → List ℕ
off_text rules board = count_line rules board ++ kinds_line rules board 0 ++ kinds_line rules board 9 ++ kinds_line rules board 18

-- ---- the whole text

-- The board before the event at a place, whose play cannot be laid if there is a fault: which board it is, the squares, the
-- players with their totals and the rack of the line, and the tiles that are not on the board.
unfoldable pub board_text : Rules → Record → (place : ℕ) → Option PlayFault → List ℕ
board_text rules r place why =
    heading_text (slice_get r.events place) why ++ squares_text rules (board_before r.events place) ++ players_text r place
    ++ off_text rules (board_before r.events place)
