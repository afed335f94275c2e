-- The fields of an event line in their normal form.
use Rattle.std.specs.Prelude.{ℕ, ◌+◌, ◌/◌, ◌%◌, ℤ, pos, negsuc, suc, List, [], ◌∷◌, ◌++◌, map, replicate, slice_index, codes, decimal}
use Rattle.std.specs.List.{flat_map, range_with_len}
use Rattle.std.specs.Fmt.{signed_decimal}
use Rattle.ref_board.specs.declared.directions.Dir.{Dir}
use Rattle.ref_board.specs.declared.directions.Dir.TheVariants.{Across, Down}
use Rattle.ref_tiles.specs.declared.symbols.Symbol.{Symbol}
use Rattle.ref_tiles.specs.Symbols.{byte_of}
use Rattle.gcg_read.specs.declared.events.EventKind.{EventKind}
use Rattle.gcg_read.specs.declared.events.EventKind.TheVariants as kind

-- the tiles of a letter, 0 for A to 25 for Z
abbrev pub letter_text : List ℕ → ℕ → List ℕ
letter_text counts n = replicate (slice_index counts n) (65 + n)

-- the tiles of the first `many` letters, from A on
unfoldable pub letters_to : List ℕ → ℕ → List ℕ
letters_to counts many = flat_map (letter_text counts) (range_with_len 0 many)

-- the letter tiles, A to Z
abbrev pub letters_text : List ℕ → List ℕ
letters_text counts = letters_to counts 26

-- tiles, A to Z and then '?' (63) for the blanks
abbrev pub tiles_text : List ℕ → List ℕ
tiles_text counts = letters_text counts ++ replicate (slice_index counts 26) 63

-- the row of a square, counted from 1
abbrev pub row_text : ℕ → List ℕ
row_text square = decimal (square / 15 + 1)

-- the column of a square, A to O
abbrev pub column_byte : ℕ → ℕ
column_byte square = 65 + square % 15

-- across: the row and then the column; down: the column and then the row
abbrev pub position_text : ℕ → Dir → List ℕ
position_text square Across = row_text square ++ column_byte square ∷ []
position_text square Down = column_byte square ∷ row_text square

-- a dot, a capital or a small letter for each symbol
abbrev pub word_text : List Symbol → List ℕ
word_text word = map byte_of word

-- a play: where it begins, and its text
abbrev pub play_text : ℕ → Dir → List Symbol → List ℕ
play_text at dir word = position_text at dir ++ 32 ∷ word_text word

-- a score, always with its sign: '+' (43) or '-' (45)
abbrev pub score_text : ℤ → List ℕ
score_text (pos n) = 43 ∷ decimal n
score_text (negsuc n) = 45 ∷ decimal (suc n)

-- what happened: position and word, or a code
unfoldable pub kind_text : EventKind → List ℕ
kind_text (kind.Play at dir word) = play_text at dir word
kind_text kind.Pass = codes "-"
kind_text (kind.Exchange tiles) = 45 ∷ tiles_text tiles
kind_text (kind.ExchangeUnknown number) = 45 ∷ decimal number
kind_text kind.Withdraw = codes "--"
kind_text kind.Challenge = codes "(challenge)"
kind_text kind.Time = codes "(time)"
kind_text (kind.LastRack tiles) = 40 ∷ tiles_text tiles ++ 41 ∷ []

-- a score and a total, which has a sign only below 0
abbrev pub points_text : ℤ → ℤ → List ℕ
points_text score total = score_text score ++ 32 ∷ signed_decimal total
