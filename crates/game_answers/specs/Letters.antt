-- The word of a play, with the letters that it plays through.
use Rattle.std.specs.Prelude.{ℕ, ◌+◌, List, [], length, map, nat_lt, Option, if◌then◌else◌}
use Rattle.std.specs.List.{range_with_len}
use Rattle.ref_tiles.specs.declared.tiles.Tile.{Tile}
use Rattle.ref_board.specs.declared.directions.Dir.{Dir}
use Rattle.ref_board.specs.Lines.{place_of}
use Rattle.ref_board.specs.Cells.{tile_at}
use Rattle.ref_play.specs.Formed.{along}
use Rattle.ref_play.specs.Words.{capital_shown}
use Rattle.gcg_read.specs.declared.events.EventKind.{EventKind}
use Rattle.gcg_read.specs.declared.events.EventKind.TheVariants as kind

-- the letters that successive squares of a board show, as capitals
unfoldable pub shown_from : (board : List (Option Tile)) → (at : ℕ) → Dir → (many : ℕ) → List ℕ
shown_from board at dir many = map (λ k. capital_shown (tile_at board (along dir at k))) (range_with_len 0 many)

-- The word of a play, by the board after it: the letters that the squares of its text show. None if the text leaves the board, which the
-- rules never allow, and none for other events.
abbrev pub word_of : (board : List (Option Tile)) → EventKind → List ℕ
word_of board (kind.Play at dir word) = if nat_lt 15 (place_of dir at + length word) then [] else shown_from board at dir (length word)
word_of board kind.Pass = []
word_of board (kind.Exchange tiles) = []
word_of board (kind.ExchangeUnknown n) = []
word_of board kind.Withdraw = []
word_of board kind.Challenge = []
word_of board kind.Time = []
word_of board (kind.LastRack tiles) = []
