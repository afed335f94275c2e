-- The bytes of a file as words of 32 bits.
use Rattle.std.specs.Prelude.{ℕ, List, [], ◌∷◌, drop}
use Rattle.byteorder.specs.Endian.{little_number}
use Rattle.lex_file.specs.Formats.{header_bytes}

-- The words of bytes, four bytes each, the lowest byte of a word first. Up to three bytes at the end are not a word.
unfoldable pub words_in : List ℕ → List ℕ
words_in (a ∷ b ∷ c ∷ d ∷ rest) = little_number 4 (a ∷ b ∷ c ∷ d ∷ []) ∷ words_in rest
words_in bytes = []

-- the words after the header
abbrev pub body_of : List ℕ → List ℕ
body_of bytes = words_in (drop header_bytes bytes)
