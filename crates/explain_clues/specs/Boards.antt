-- The board before a line, with the squares of a play marked.
use Rattle.std.specs.Prelude.{ℕ, ◌+◌, ◌==◌, ◌&&◌, nat_le, nat_lt, Bool, false, List, length, map, Option}
use Rattle.std.specs.List.{range_with_len}
use Rattle.ref_tiles.specs.declared.tiles.Tile.{Tile}
use Rattle.ref_tiles.specs.declared.rulebook.Rules.{Rules}
use Rattle.ref_board.specs.declared.directions.Dir.{Dir}
use Rattle.ref_board.specs.Lines.{line_of, place_of}
use Rattle.gcg_read.specs.declared.events.EventKind.{EventKind}
use Rattle.gcg_read.specs.declared.events.EventKind.TheVariants as kind
use Rattle.game_board.specs.Marks.{square_mark}
use Rattle.explain_clues.specs.declared.boards.ShownSquare.{ShownSquare}

-- whether a text of `many` symbols covers a square: one on its line, from its first square on
abbrev pub covers : (at : ℕ) → Dir → (many square : ℕ) → Bool
covers at d many square =
    line_of d square == line_of d at && nat_le (place_of d at) (place_of d square) && nat_lt (place_of d square) (place_of d at + many)

-- whether a square is one of those that the play of an event covers; other events cover none
abbrev pub is_marked : EventKind → (square : ℕ) → Bool
is_marked (kind.Play at dir word) square = covers at dir (length word) square
is_marked other square = false

-- a square of a board: its mark, and whether the play covers it
abbrev pub shown_square : Rules → (board : List (Option Tile)) → EventKind → (square : ℕ) → ShownSquare
shown_square rules board what square = record { mark = square_mark rules board square; is_marked = is_marked what square }

-- all squares, row by row from 1A
unfoldable pub shown_squares : Rules → (board : List (Option Tile)) → EventKind → List ShownSquare
shown_squares rules board what = map (shown_square rules board what) (range_with_len 0 225)
