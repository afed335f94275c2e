-- Kinds of tiles and their numbers.
use Rattle.std.specs.Prelude.{ℕ, ◌+◌, ◌==◌, Option, Some, None, if◌then◌else◌}
use Rattle.std.specs.Option.{option_map}
use Rattle.ref_tiles.specs.Letters.{letter_at, letter_from}
use Rattle.ref_tiles.specs.declared.letters.Letter.{Letter}
use Rattle.ref_tiles.specs.declared.kinds.Kind.{Kind}
use Rattle.ref_tiles.specs.declared.kinds.Kind.TheVariants as kind

-- A to Z are 0 to 25, a blank is 26
abbrev pub number_of : Kind → ℕ
number_of (kind.Letter l) = l.index
number_of kind.Blank = 26

-- the kind with this number
abbrev pub kind_or_blank : Option Letter → Kind
kind_or_blank None = kind.Blank
kind_or_blank (Some l) = kind.Letter l

abbrev pub kind_at : ℕ → Kind
kind_at number = kind_or_blank (letter_at number)

-- A to Z write letter tiles, '?' (63) a blank; no other byte writes a tile
abbrev pub kind_of : ℕ → Option Kind
kind_of byte = if byte == 63 then Some kind.Blank else option_map kind.Letter (letter_from 65 byte)

-- the byte that writes a kind: a capital, or '?' (63) for a blank
abbrev pub kind_byte : Kind → ℕ
kind_byte (kind.Letter l) = 65 + l.index
kind_byte kind.Blank = 63
