-- The symbols of a play's text, as bytes.
use Rattle.std.specs.Prelude.{ℕ, ◌+◌, ◌==◌, nat_lt, Option, Some, if◌then◌else◌}
use Rattle.std.specs.Option.{option_map}
use Rattle.ref_tiles.specs.Letters.{letter_from}
use Rattle.ref_tiles.specs.declared.symbols.Symbol.{Symbol}
use Rattle.ref_tiles.specs.declared.symbols.Symbol.TheVariants as symbol

-- a dot, a capital or a small letter; no other byte is a symbol
abbrev pub symbol_of : ℕ → Option Symbol
symbol_of byte =
    if byte == 46 then Some symbol.Dot
    else (if nat_lt byte 97 then option_map symbol.Letter (letter_from 65 byte) else option_map symbol.Blank (letter_from 97 byte))

-- the byte that writes the symbol
abbrev pub byte_of : Symbol → ℕ
byte_of symbol.Dot = 46
byte_of (symbol.Letter l) = 65 + l.index
byte_of (symbol.Blank l) = 97 + l.index
