-- What is said of the boards after the events: the play of each as it lies there, and the tiles that are not on the board.
use Rattle.std.specs.Prelude.{◌≡◌, ℕ, ◌+◌, ◌<◌, ◌==◌, Bool, false, List, length, map, count_by, slice_get, slice_index_or, Option, Some, None}
use Rattle.std.specs.List.{range_with_len}
use Rattle.ref_tiles.specs.declared.rulebook.Rules.{Rules}
use Rattle.ref_board.specs.declared.directions.Dir.{Dir}
use Rattle.ref_board.specs.Lines.{place_of}
use Rattle.ref_board.specs.Cells.{tile_at}
use Rattle.ref_play.specs.Formed.{along}
use Rattle.gcg_read.specs.declared.events.Event.{Event}
use Rattle.gcg_read.specs.declared.events.EventKind.{EventKind}
use Rattle.gcg_read.specs.declared.events.EventKind.TheVariants as kind
use Rattle.game_board.specs.Tiles.{kinds_off, all_off}
use Rattle.sheet_scores.specs.declared.pictures.Picture.{Picture}
use Rattle.sheet_scores.specs.declared.positions.PlayedTile.{PlayedTile}
use Rattle.sheet_scores.specs.declared.positions.LaidPlay.{LaidPlay}
use Rattle.sheet_scores.specs.declared.positions.Position.{Position}

-- a square of a board, and whether its tile is new there
abbrev pub played_tile : Picture → (square : ℕ) → PlayedTile
played_tile p square = record { cell = tile_at p.board square; is_new = slice_index_or p.marked square false }

-- the squares that a text of `many` symbols covers, in their order
unfoldable pub played_tiles : Picture → (at : ℕ) → Dir → (many : ℕ) → List PlayedTile
played_tiles p at dir many = map (λ k. played_tile p (along dir at k)) (range_with_len 0 many)

abbrev pub is_new_tile : PlayedTile → Bool
is_new_tile tile = tile.is_new

-- A play as it lies on the board after it: the squares of its text, and whether it is a bingo, with seven new tiles among them. None if
-- the text leaves the board.
abbrev pub IsLaidAt : Picture → (at : ℕ) → Dir → (many : ℕ) → Option LaidPlay → Type 0
IsLaidAt p at dir many None = 15 < place_of dir at + many
IsLaidAt p at dir many (Some play) = (play.tiles.items ≡ played_tiles p at dir many) × (play.is_full ≡ (count_by is_new_tile play.tiles.items == 7))

-- the same for an event; none if it is not a play
abbrev pub IsLaidBy : Picture → EventKind → Option LaidPlay → Type 0
IsLaidBy p (kind.Play at dir word) play = IsLaidAt p at dir (length word) play
IsLaidBy p kind.Pass play = play ≡ None
IsLaidBy p (kind.Exchange tiles) play = play ≡ None
IsLaidBy p (kind.ExchangeUnknown n) play = play ≡ None
IsLaidBy p kind.Withdraw play = play ≡ None
IsLaidBy p kind.Challenge play = play ≡ None
IsLaidBy p kind.Time play = play ≡ None
IsLaidBy p (kind.LastRack tiles) play = play ≡ None

-- what is said of the board after an event
pub record IsPositionOf (rules : Rules) (k : EventKind) (p : Picture) (x : Position) : Type 0 where
  pub play : IsLaidBy p k x.play
  pub off : x.off.items ≡ kinds_off rules p.board 27
  pub off_in_all : x.off_in_all ≡ all_off rules p.board 27

-- the same for the event at a place, and for the board there
pub record IsPositionAt (rules : Rules) (events : List Event) (pictures : List Picture) (place : ℕ) (x : Position) : Type 0 where
  pub event : Event
  pub picture : Picture
  pub stands : slice_get events place ≡ Some event
  pub shows : slice_get pictures place ≡ Some picture
  pub is : IsPositionOf rules event.kind picture x

-- there is one for each board before a place, in their order
pub record ArePositions (rules : Rules) (events : List Event) (pictures : List Picture) (end : ℕ) (positions : List Position) : Type 0 where
  pub as_many : length positions ≡ end
  pub each : (place : ℕ) (x : Position) → slice_get positions place ≡ Some x → IsPositionAt rules events pictures place x
