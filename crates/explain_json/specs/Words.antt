-- The words of a play and the board before an event, as objects.
use Rattle.std.specs.Prelude.{ℕ, List, [], ◌∷◌, codes, map, slice_get, Option, Some, None, option_map, if◌then◌else◌}
use Rattle.std.specs.List.{flat_map, range_with_len}
use Rattle.json.specs.Json.{Json, boolean, null, string}
use Rattle.json_trees.specs.Values.{Field, array_of, count, integer, object_of, or_null, text}
use Rattle.ref_board.specs.declared.directions.Dir.TheVariants.{Across}
use Rattle.ref_board.specs.Lines.{square_at}
use Rattle.ref_tiles.specs.Symbols.{byte_of}
use Rattle.ref_tiles.specs.declared.tiles.Tile.{Tile}
use Rattle.ref_tiles.specs.declared.premiums.Premium.{Premium}
use Rattle.ref_tiles.specs.declared.premiums.Premium.TheVariants as premium
use Rattle.ref_play.specs.Notations.{symbol_by}
use Rattle.explain_clues.specs.declared.plays.PlayedSquare.{PlayedSquare}
use Rattle.explain_clues.specs.declared.plays.PlayedWord.{PlayedWord}
use Rattle.explain_clues.specs.declared.plays.ScoredPlay.{ScoredPlay}
use Rattle.explain_clues.specs.declared.boards.ShownSquare.{ShownSquare}
use Rattle.explain_json.specs.Parts.{byte_value, square_value}

-- ---- words

abbrev pub premium_value : Premium → Json
premium_value premium.Plain = null
premium_value premium.DoubleLetter = string (codes "double letter")
premium_value premium.TripleLetter = string (codes "triple letter")
premium_value premium.DoubleWord = string (codes "double word")
premium_value premium.TripleWord = string (codes "triple word")

-- the letter of a tile, small for a blank
abbrev pub cell_value : Option Tile → Json
cell_value None = text []
cell_value (Some tile) = byte_value (byte_of (symbol_by tile.kind tile.shown))

-- a square of a word
abbrev pub square_fields : PlayedSquare → List Field
square_fields it =
    (codes "square", square_value it.square)
    ∷ (codes "tile", cell_value it.cell)
    ∷ (codes "new", boolean it.is_new)
    ∷ (codes "points", count it.points)
    ∷ (codes "premium", premium_value it.premium)
    ∷ (codes "factor", count it.factor)
    ∷ (codes "adds", count it.adds)
    ∷ []

abbrev pub square_object : PlayedSquare → Json
square_object it = object_of (square_fields it)

-- a word, square by square, and what it adds up to
abbrev pub word_fields : PlayedWord → List Field
word_fields it =
    (codes "word", text it.letters.items)
    ∷ (codes "listed", boolean it.is_listed)
    ∷ (codes "squares", array_of (map square_object it.squares.items))
    ∷ (codes "sum", count it.letters_sum)
    ∷ (codes "factor", count it.factor)
    ∷ (codes "score", count it.score)
    ∷ []

abbrev pub word_object : PlayedWord → Json
word_object it = object_of (word_fields it)

-- the words of a play, and what they add up to
abbrev pub scored_fields : ScoredPlay → List Field
scored_fields it =
    (codes "words", array_of (map word_object it.words.items))
    ∷ (codes "bonus", or_null (option_map count it.bonus))
    ∷ (codes "score", integer it.score)
    ∷ []

abbrev pub scored_object : ScoredPlay → Json
scored_object it = object_of (scored_fields it)

-- ---- the board

-- the mark of the square of this number, if there is one
abbrev pub mark_in : Option ShownSquare → List ℕ
mark_in None = []
mark_in (Some shown) = shown.mark ∷ []

-- the one of a row and a column
unfoldable pub mark_at : List ShownSquare → (row column : ℕ) → List ℕ
mark_at squares row column = mark_in (slice_get squares (square_at Across row column))

-- the marks of the first squares of a row
unfoldable pub marks_to : List ShownSquare → (row many : ℕ) → List ℕ
marks_to squares row many = flat_map (mark_at squares row) (range_with_len 0 many)

abbrev pub row_value : List ShownSquare → (row : ℕ) → Json
row_value squares row = text (marks_to squares row 15)

-- the name of a square, if it is marked
abbrev pub name_if : (square : ℕ) → Option ShownSquare → List Json
name_if square None = []
name_if square (Some shown) = if shown.is_marked then square_value square ∷ [] else []

-- the one of a row and a column
unfoldable pub name_at : List ShownSquare → (row column : ℕ) → List Json
name_at squares row column = name_if (square_at Across row column) (slice_get squares (square_at Across row column))

-- the names of the marked squares among the first ones of a row
unfoldable pub marked_to : List ShownSquare → (row many : ℕ) → List Json
marked_to squares row many = flat_map (name_at squares row) (range_with_len 0 many)

-- of the whole row
abbrev pub marked_row : List ShownSquare → (row : ℕ) → List Json
marked_row squares row = marked_to squares row 15

-- of the first rows
unfoldable pub marked_rows : List ShownSquare → (many : ℕ) → List Json
marked_rows squares many = flat_map (marked_row squares) (range_with_len 0 many)

-- the 15 rows, and the squares that are marked, row by row
abbrev pub board_fields : List ShownSquare → List Field
board_fields squares =
    (codes "rows", array_of (map (row_value squares) (range_with_len 0 15)))
    ∷ (codes "marked", array_of (marked_rows squares 15))
    ∷ []

abbrev pub board_object : List ShownSquare → Json
board_object squares = object_of (board_fields squares)
