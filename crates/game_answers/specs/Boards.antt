-- The board of a record, as a value.
use Rattle.std.specs.Prelude.{◌≡◌, ℕ, ◌+◌, ◌*◌, List, map, Option, Some, None, Result, Ok, Err, slice_get}
use Rattle.std.specs.List.{range_with_len}
use Rattle.ref_tiles.specs.declared.tiles.Tile.{Tile}
use Rattle.ref_tiles.specs.declared.rulebook.Rules.{Rules}
use Rattle.ref_play.specs.Words.{items_of}
use Rattle.gcg_read.specs.declared.events.Event.{Event}
use Rattle.gcg_read.specs.declared.events.Seat.TheVariants.{First, Second}
use Rattle.gcg_read.specs.declared.records.Record.{Record}
use Rattle.gcg_read.specs.Records.{record_of}
use Rattle.game_corrections.specs.WrongNumbers.{had_before}
use Rattle.game_board.specs.Laying.{board_before, AreLaid}
use Rattle.game_board.specs.Marks.{square_mark}
use Rattle.game_board.specs.Tiles.{kinds_off, all_off}
use Rattle.engine_stages.specs.declared.decisions.Decision.{Decision}
use Rattle.engine_stages.specs.declared.verdicts.Verdict.TheVariants as verdict
use Rattle.engine_stages.specs.Stages.{IsRecordOf}
use Rattle.engine.specs.Boards.{place_asked, IsShown}
use Rattle.engine.specs.TopBefore.{shown_rack}
use Rattle.game_answers.specs.declared.boards.ShownBoard.{ShownBoard}
use Rattle.game_answers.specs.BoardTexts.{shown_text}

-- the mark of a square of a row: its tile, or its premium if it is empty
abbrev pub mark_at : Rules → List (Option Tile) → (row column : ℕ) → ℕ
mark_at rules board row column = square_mark rules board (15 * row + column)

-- the marks of the first squares of a row
unfoldable pub row_marks : Rules → List (Option Tile) → (row many : ℕ) → List ℕ
row_marks rules board row many = map (mark_at rules board row) (range_with_len 0 many)

-- those of the first rows
unfoldable pub board_marks : Rules → List (Option Tile) → (many : ℕ) → List (List ℕ)
board_marks rules board many = map (λ row. row_marks rules board row 15) (range_with_len 0 many)

-- the line of an event, if there is one
abbrev pub line_at : Option Event → Option ℕ
line_at None = None
line_at (Some e) = Some e.line

-- The board on which the plays before a place are laid, as far as they can be: of the event there its line, why its play cannot be laid, and its
-- rack; the mark of each square; the last totals of the players that are written before; and the tiles that are not on the board. The text that is
-- written only from these is the one that `board` writes.
pub record IsShownBoard (rules : Rules) (r : Record) (asked : ℕ) (b : ShownBoard) : Type 0 where
  pub end : ℕ
  pub laid : AreLaid r.events asked end b.fault
  pub line : b.line ≡ line_at (slice_get r.events end)
  pub rows : items_of b.rows.items ≡ board_marks rules (board_before r.events end) 15
  pub players : b.players ≡ r.players
  pub first : b.first ≡ had_before r.events First end
  pub second : b.second ≡ had_before r.events Second end
  pub rack : b.rack ≡ shown_rack (slice_get r.events end)
  pub off : b.off.items ≡ kinds_off rules (board_before r.events end) 27
  pub off_in_all : b.off_in_all ≡ all_off rules (board_before r.events end) 27
  pub reported : IsShown rules r asked verdict.Done (shown_text b)

-- the board before the place of the question, if there is one
abbrev pub IsBoardAt : Rules → Record → (place : Option ℕ) → Option ShownBoard → Type 0
IsBoardAt rules r None b = b ≡ None
IsBoardAt rules r (Some place) None = ⊥
IsBoardAt rules r (Some place) (Some b) = IsShownBoard rules r place b

-- the board of the record that a text means, or the verdict that it means none
abbrev pub IsBoardOf : Rules → (before : Option ℕ) → (text : List ℕ) → Result (Option ShownBoard) Decision → Type 0
IsBoardOf rules before text (Ok b) = (r : Record) × (record_of text ≡ Ok r) × IsBoardAt rules r (place_asked r.events before) b
IsBoardOf rules before text (Err d) = IsRecordOf text (Err d)
