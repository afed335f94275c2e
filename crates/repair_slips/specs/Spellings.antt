-- What may be wrong with the text of a play. Places are counted from 0.
use Rattle.std.specs.Prelude.{ℕ, ◌+◌, ◌==◌, nat_lt, List, [], ◌∷◌, ◌++◌, length, Option, Some, None, slice_get, if◌then◌else◌}
use Rattle.ref_tiles.specs.declared.letters.Letter.{Letter}
use Rattle.ref_tiles.specs.declared.symbols.Symbol.{Symbol}
use Rattle.ref_tiles.specs.declared.symbols.Symbol.TheVariants as symbol
use Rattle.ref_tiles.specs.Symbols.{byte_of}
use Rattle.repair_changes.specs.declared.slips.Slip.{Slip}
use Rattle.repair_changes.specs.declared.slips.Slip.TheVariants as slip
use Rattle.repair_changes.specs.declared.slips.SpellingSlip.{SpellingSlip}
use Rattle.repair_changes.specs.declared.slips.SpellingSlip.TheVariants as spelling
use Rattle.repair_slips.specs.Each.{lists_below, for_letters}

abbrev pub spelled : SpellingSlip → List Slip
spelled s = slip.Spelling s ∷ []

-- ---- another symbol

-- a letter in place of a dot
abbrev pub letter_for_dot : (place : ℕ) → Letter → List Slip
letter_for_dot place right = spelled (spelling.Letter place right)

-- a tile of the same kind that shows another letter
abbrev pub relettered : (written : Symbol) → Letter → Symbol
relettered symbol.Dot right = symbol.Dot
relettered (symbol.Letter l) right = symbol.Letter right
relettered (symbol.Blank l) right = symbol.Blank right

-- another letter in place of this one
abbrev pub other_letter : (place : ℕ) → (written : Symbol) → Letter → List Slip
other_letter place written right =
    if byte_of (relettered written right) == byte_of written then [] else spelled (spelling.OtherLetter place (relettered written right))

-- What a tile may have been: this one with the same letter, a tile that was there before, or a tile of the same kind with another letter.
abbrev pub slips_of_tile : (place : ℕ) → (written same : Symbol) → List Slip
slips_of_tile place written same =
    slip.Spelling (spelling.OtherTile place same) ∷ slip.Spelling (spelling.Dot place) ∷ for_letters (other_letter place written)

-- A dot may have been any letter; a letter may have been a blank that shows it, and a blank a letter.
unfoldable pub symbol_slips : (place : ℕ) → Symbol → List Slip
symbol_slips place symbol.Dot = for_letters (letter_for_dot place)
symbol_slips place (symbol.Letter l) = slips_of_tile place (symbol.Letter l) (symbol.Blank l)
symbol_slips place (symbol.Blank l) = slips_of_tile place (symbol.Blank l) (symbol.Letter l)

abbrev pub slips_of_symbol : (place : ℕ) → Option Symbol → List Slip
slips_of_symbol place None = []
slips_of_symbol place (Some s) = symbol_slips place s

abbrev pub slips_at_symbol : (word : List Symbol) → (place : ℕ) → List Slip
slips_at_symbol word place = slips_of_symbol place (slice_get word place)

-- each symbol may have been another one
unfoldable pub other_symbols : (word : List Symbol) → List Slip
other_symbols word = lists_below (slips_at_symbol word) (length word)

-- ---- a symbol too many or too few

abbrev pub extra_symbol : (place : ℕ) → List Slip
extra_symbol place = spelled (spelling.Extra place)

-- each symbol may be too many, unless it is the only one
unfoldable pub extra_symbols : (word : List Symbol) → List Slip
extra_symbols word = if nat_lt 1 (length word) then lists_below extra_symbol (length word) else []

abbrev pub missing_letter : (place : ℕ) → Letter → List Slip
missing_letter place right = spelled (spelling.MissingLetter place right)

-- a dot or a letter may be missing before a place
abbrev pub missing_symbol : (place : ℕ) → List Slip
missing_symbol place = slip.Spelling (spelling.MissingDot place) ∷ for_letters (missing_letter place)

-- the same before each place and at the end, if a text may have one more
unfoldable pub missing_symbols : (word : List Symbol) → List Slip
missing_symbols word = if nat_lt (length word) 15 then lists_below missing_symbol (length word + 1) else []

-- ---- two symbols in each other's place

-- two neighbours that differ
unfoldable pub twisted_pair : (place : ℕ) → Symbol → Symbol → List Slip
twisted_pair place a b = if byte_of a == byte_of b then [] else spelled (spelling.Twisted place)

abbrev pub twisted_two : (place : ℕ) → Option Symbol → Option Symbol → List Slip
twisted_two place (Some a) (Some b) = twisted_pair place a b
twisted_two place None other = []
twisted_two place (Some a) None = []

abbrev pub twisted_at : (word : List Symbol) → (place : ℕ) → List Slip
twisted_at word place = twisted_two place (slice_get word place) (slice_get word (place + 1))

-- each two neighbours that differ
unfoldable pub twisted_symbols : (word : List Symbol) → List Slip
twisted_symbols word = lists_below (twisted_at word) (length word)

-- ---- all of them, except for those that need the board

unfoldable pub spelling_slips : (word : List Symbol) → List Slip
spelling_slips word = other_symbols word ++ extra_symbols word ++ missing_symbols word ++ twisted_symbols word
