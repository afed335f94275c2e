-- The text of a board, as it is written only from its value.
use Rattle.std.specs.Prelude.{ℕ, ℤ, ◌+◌, List, [], ◌∷◌, ◌++◌, codes, decimal, take, drop, Option, Some, None}
use Rattle.std.specs.Fmt.{signed_decimal}
use Rattle.std.specs.List.{flat_map}
use Rattle.ref_play.specs.Words.{items_of}
use Rattle.gcg_read.specs.declared.players.Player.{Player}
use Rattle.game_board.specs.Texts.{end_text, row_name, columns_line, marks_lines, short_nick, stated_rack, counted_kind}
use Rattle.game_answers.specs.declared.boards.ShownBoard.{ShownBoard}

-- which board it is, by the line of the event that it comes before
abbrev pub heading_of : (line : Option ℕ) → List ℕ
heading_of None = codes "board after the last event"
heading_of (Some line) = codes "board before line " ++ decimal line

-- the line of a row by its marks, each after a space
abbrev pub reported_row : (row : ℕ) → (marks : List ℕ) → List ℕ
reported_row row marks = row_name row ++ flat_map (λ mark. 32 ∷ mark ∷ []) marks ++ 10 ∷ []

-- the lines of rows from one on
abbrev pub reported_rows : (row : ℕ) → (rows : List (List ℕ)) → List ℕ
reported_rows row [] = []
reported_rows row (marks ∷ rows) = reported_row row marks ++ reported_rows (row + 1) rows

-- the line of a player with a total
abbrev pub reported_player : Player → (total : ℤ) → List ℕ
reported_player player total = short_nick player.nick ++ 32 ∷ signed_decimal total ++ 10 ∷ []

-- kinds from one on, with numbers of their tiles
abbrev pub reported_kinds : (kind : ℕ) → (numbers : List ℕ) → List ℕ
reported_kinds kind [] = []
reported_kinds kind (number ∷ numbers) = counted_kind kind number ++ reported_kinds (kind + 1) numbers

-- the line of nine kinds
unfoldable pub reported_nine : (first : ℕ) → (numbers : List ℕ) → List ℕ
reported_nine first numbers = reported_kinds first (take 9 (drop first numbers)) ++ 10 ∷ []

-- the tiles that are not on the board
abbrev pub reported_off : (in_all : ℕ) → (numbers : List ℕ) → List ℕ
reported_off in_all numbers = (codes "tiles not on the board: " ++ decimal in_all ++ 10 ∷ []) ++ reported_nine 0 numbers ++ reported_nine 9 numbers ++ reported_nine 18 numbers

abbrev pub shown_text : ShownBoard → List ℕ
shown_text b =
    (heading_of b.line ++ end_text b.fault) ++ (columns_line ++ reported_rows 0 (items_of b.rows.items) ++ marks_lines)
    ++ (reported_player b.players.first b.first ++ reported_player b.players.second b.second ++ stated_rack b.rack) ++ reported_off b.off_in_all b.off.items
