-- A board with some of its squares marked.
use Rattle.std.specs.Prelude.{◌≡◌, ℕ, ◌+◌, ◌<◌, ◌==◌, nat_le, nat_lt, ◌&&◌, not, Bool, false, List, length, slice_index_or, Option, Some, None}
use Rattle.ref_tiles.specs.declared.tiles.Tile.{Tile}
use Rattle.ref_board.specs.declared.directions.Dir.{Dir}
use Rattle.ref_board.specs.Lines.{line_of, place_of}
use Rattle.ref_board.specs.Cells.{holds}
use Rattle.gcg_read.specs.declared.events.Event.{Event}
use Rattle.gcg_read.specs.declared.events.EventKind.{EventKind}
use Rattle.gcg_read.specs.declared.events.EventKind.TheVariants as kind
use Rattle.sheet_scores.specs.declared.pictures.Picture.{Picture}

-- whether a square has a new tile: one on the board after an event, and none on the board before it
abbrev pub is_new : (before after : List (Option Tile)) → (square : ℕ) → Bool
is_new before after square = holds after square && not (holds before square)

-- whether a text of `many` symbols, from a square on, covers a square
abbrev pub is_covered : (at : ℕ) → Dir → (many square : ℕ) → Bool
is_covered at dir many square = (line_of dir square == line_of dir at && nat_le (place_of dir at) (place_of dir square)) && nat_lt (place_of dir square) (place_of dir at + many)

-- whether the play of an event covers a square; no square if the event is not a play
abbrev pub covered_by : EventKind → (square : ℕ) → Bool
covered_by (kind.Play at dir word) square = is_covered at dir (length word) square
covered_by kind.Pass square = false
covered_by (kind.Exchange tiles) square = false
covered_by (kind.ExchangeUnknown n) square = false
covered_by kind.Withdraw square = false
covered_by kind.Challenge square = false
covered_by kind.Time square = false
covered_by (kind.LastRack tiles) square = false

abbrev pub covered : Option Event → (square : ℕ) → Bool
covered None square = false
covered (Some e) square = covered_by e.kind square

-- exactly these squares are marked
pub record AreMarked (is_one : ℕ → Bool) (marked : List Bool) : Type 0 where
  pub size : length marked ≡ 225
  pub each : (square : ℕ) → square < 225 → slice_index_or marked square false ≡ is_one square

-- a board, with exactly these squares marked
pub record IsPicture (board : List (Option Tile)) (is_one : ℕ → Bool) (p : Picture) : Type 0 where
  pub shows : p.board ≡ board
  pub marked : AreMarked is_one p.marked
