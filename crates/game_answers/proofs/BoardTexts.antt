-- The text of a board by its value is the one that is written from the record.
use Rattle.std.proofs.Common.{◌≡◌, ℕ, zero, suc, ℤ, ◌+◌, List, [], ◌∷◌, ◌++◌, map, take, drop, Option, Some, None, refl, ap, ◌∙◌}
use Rattle.std.specs.Prelude.{slice_get}
use Rattle.std.specs.List.{flat_map, range_with_len}
use Rattle.ref_tiles.specs.declared.tiles.Tile.{Tile}
use Rattle.ref_tiles.specs.declared.rulebook.Rules.{Rules}
use Rattle.ref_play.specs.declared.faults.PlayFault.{PlayFault}
use Rattle.gcg_read.specs.declared.events.Event.{Event}
use Rattle.gcg_read.specs.declared.events.Seat.TheVariants.{First, Second}
use Rattle.gcg_read.specs.declared.players.Players.{Players}
use Rattle.gcg_read.specs.declared.records.Record.{Record}
use Rattle.game_corrections.specs.WrongNumbers.{had_before}
use Rattle.game_board.specs.Laying.{board_before}
use Rattle.game_board.specs.Texts.{place_text, end_text, heading_text, row_name, cell_text, cells_text, row_line, rows_text, squares_text, columns_line, marks_lines, player_line, stated_rack, rack_text, players_text, kind_text, kinds_text, kinds_line, count_line, off_text, board_text}
use Rattle.game_board.specs.Tiles.{off_board, kinds_off, all_off}
use Rattle.engine.specs.TopBefore.{shown_rack}
use Rattle.game_answers.specs.Boards.{mark_at, row_marks, board_marks, line_at}
use Rattle.game_answers.specs.BoardTexts.{heading_of, reported_row, reported_rows, reported_player, reported_kinds, reported_nine, reported_off}

-- ---- which board it is

heading_is : (e : Option Event) → heading_of (line_at e) ≡ place_text e
unfolding place_text
heading_is None = refl
heading_is (Some e) = refl

-- ---- the squares

cells_reported : (rules : Rules) (board : List (Option Tile)) (row : ℕ) (columns : List ℕ) → flat_map (λ mark. 32 ∷ mark ∷ []) (map (mark_at rules board row) columns) ≡ flat_map (cell_text rules board row) columns
cells_reported rules board row [] = refl
cells_reported rules board row (column ∷ more) = ap (λ t. cell_text rules board row column ++ t) (cells_reported rules board row more)

row_reported : (rules : Rules) (board : List (Option Tile)) (row : ℕ) → reported_row row (row_marks rules board row 15) ≡ row_line rules board row
unfolding row_marks row_line cells_text
row_reported rules board row = ap (λ t. row_name row ++ t ++ 10 ∷ []) (cells_reported rules board row (range_with_len 0 15))

rows_reported : (rules : Rules) (board : List (Option Tile)) (first many : ℕ)
    → reported_rows first (map (λ row. row_marks rules board row 15) (range_with_len first many)) ≡ flat_map (row_line rules board) (range_with_len first many)
rows_reported rules board first zero = refl
rows_reported rules board first (suc many) =
    let more = map (λ row. row_marks rules board row 15) (range_with_len (first + 1) many) in
    ap (λ t. t ++ reported_rows (first + 1) more) (row_reported rules board first) ∙ ap (λ t. row_line rules board first ++ t) (rows_reported rules board (first + 1) many)

all_rows : (rules : Rules) (board : List (Option Tile)) → reported_rows 0 (board_marks rules board 15) ≡ rows_text rules board 15
unfolding board_marks rows_text
all_rows rules board = rows_reported rules board 0 15

-- ---- the players

rack_reported : (e : Option Event) → stated_rack (shown_rack e) ≡ rack_text e
unfolding rack_text
rack_reported None = refl
rack_reported (Some e) = refl

first_reported : (r : Record) (place : ℕ) → reported_player r.players.first (had_before r.events First place) ≡ player_line r place First
unfolding player_line
first_reported r place = refl

second_reported : (r : Record) (place : ℕ) → reported_player r.players.second (had_before r.events Second place) ≡ player_line r place Second
unfolding player_line
second_reported r place = refl

-- ---- the tiles

kinds_reported : (rules : Rules) (board : List (Option Tile)) (first many : ℕ) → reported_kinds first (map (off_board rules board) (range_with_len first many)) ≡ kinds_text rules board first many
unfolding kinds_text
kinds_reported rules board first zero = refl
kinds_reported rules board first (suc many) = ap (λ t. kind_text rules board first ++ t) (kinds_reported rules board (first + 1) many)

nine_reported : (rules : Rules) (board : List (Option Tile)) (first : ℕ) → take 9 (drop first (kinds_off rules board 27)) ≡ map (off_board rules board) (range_with_len first 9)
    → reported_nine first (kinds_off rules board 27) ≡ kinds_line rules board first
unfolding reported_nine kinds_line
nine_reported rules board first same = ap (λ ns. reported_kinds first ns ++ 10 ∷ []) same ∙ ap (λ t. t ++ 10 ∷ []) (kinds_reported rules board first 9)

nine_first : (rules : Rules) (board : List (Option Tile)) → take 9 (drop 0 (kinds_off rules board 27)) ≡ map (off_board rules board) (range_with_len 0 9)
unfolding kinds_off
nine_first rules board = refl

nine_second : (rules : Rules) (board : List (Option Tile)) → take 9 (drop 9 (kinds_off rules board 27)) ≡ map (off_board rules board) (range_with_len 9 9)
unfolding kinds_off
nine_second rules board = refl

nine_third : (rules : Rules) (board : List (Option Tile)) → take 9 (drop 18 (kinds_off rules board 27)) ≡ map (off_board rules board) (range_with_len 18 9)
unfolding kinds_off
nine_third rules board = refl

off_reported : (rules : Rules) (board : List (Option Tile)) → reported_off (all_off rules board 27) (kinds_off rules board 27) ≡ off_text rules board
unfolding count_line
off_reported rules board =
    ap (λ t. count_line rules board ++ t ++ reported_nine 9 (kinds_off rules board 27) ++ reported_nine 18 (kinds_off rules board 27)) (nine_reported rules board 0 (nine_first rules board))
    ∙ ap (λ t. count_line rules board ++ kinds_line rules board 0 ++ t ++ reported_nine 18 (kinds_off rules board 27)) (nine_reported rules board 9 (nine_second rules board))
    ∙ ap (λ t. count_line rules board ++ kinds_line rules board 0 ++ kinds_line rules board 9 ++ t) (nine_reported rules board 18 (nine_third rules board))

-- ---- all of it

four_parts : (a b c d e f g h : List ℕ) → a ≡ e → b ≡ f → c ≡ g → d ≡ h → a ++ b ++ c ++ d ≡ e ++ f ++ g ++ h
four_parts a b c d e f g h one two three four =
    ap (λ t. t ++ b ++ c ++ d) one ∙ ap (λ t. e ++ t ++ c ++ d) two ∙ ap (λ t. e ++ f ++ t ++ d) three ∙ ap (λ t. e ++ f ++ g ++ t) four

-- the parts of a board, by what each is
pub reported_board : (rules : Rules) (r : Record) (end : ℕ) (why : Option PlayFault) (line : Option ℕ) (rows : List (List ℕ)) (players : Players) (first second : ℤ) (rack : Option (List ℕ)) (in_all : ℕ) (off : List ℕ)
    → line ≡ line_at (slice_get r.events end) → rows ≡ board_marks rules (board_before r.events end) 15 → players ≡ r.players → first ≡ had_before r.events First end
    → second ≡ had_before r.events Second end → rack ≡ shown_rack (slice_get r.events end) → in_all ≡ all_off rules (board_before r.events end) 27 → off ≡ kinds_off rules (board_before r.events end) 27
    → (heading_of line ++ end_text why) ++ (columns_line ++ reported_rows 0 rows ++ marks_lines)
    ++ (reported_player players.first first ++ reported_player players.second second ++ stated_rack rack) ++ reported_off in_all off
    ≡ board_text rules r end why
unfolding board_text
reported_board rules r end why line rows players first second rack in_all off line_is rows_are players_are first_is second_is rack_is all_is off_is =
    let board = board_before r.events end in
    let event = slice_get r.events end in
    four_parts (heading_of line ++ end_text why) (columns_line ++ reported_rows 0 rows ++ marks_lines) (reported_player players.first first ++ reported_player players.second second ++ stated_rack rack) (reported_off in_all off)
    (heading_text event why) (squares_text rules board) (players_text r end) (off_text rules board)
    (ap (λ l. heading_of l ++ end_text why) line_is ∙ ap (λ t. t ++ end_text why) (heading_is event))
    (ap (λ rs. columns_line ++ reported_rows 0 rs ++ marks_lines) rows_are ∙ ap (λ t. columns_line ++ t ++ marks_lines) (all_rows rules board))
    (ap (λ (ps : Players). reported_player ps.first first ++ reported_player ps.second second ++ stated_rack rack) players_are
    ∙ ap (λ n. reported_player r.players.first n ++ reported_player r.players.second second ++ stated_rack rack) first_is
    ∙ ap (λ n. reported_player r.players.first (had_before r.events First end) ++ reported_player r.players.second n ++ stated_rack rack) second_is
    ∙ ap (λ o. reported_player r.players.first (had_before r.events First end) ++ reported_player r.players.second (had_before r.events Second end) ++ stated_rack o) rack_is
    ∙ ap (λ t. t ++ reported_player r.players.second (had_before r.events Second end) ++ stated_rack (shown_rack event)) (first_reported r end)
    ∙ ap (λ t. player_line r end First ++ t ++ stated_rack (shown_rack event)) (second_reported r end)
    ∙ ap (λ t. player_line r end First ++ player_line r end Second ++ t) (rack_reported event))
    (ap (λ n. reported_off n off) all_is ∙ ap (λ ns. reported_off (all_off rules board 27) ns) off_is ∙ off_reported rules board)
