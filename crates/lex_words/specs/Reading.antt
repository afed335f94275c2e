-- What is kept of a text that is read byte by byte.
use Rattle.std.specs.Prelude.{ℕ, nat_lt, Bool, false, Option, None, Some, option_map, List, [], ◌∷◌, ◌++◌, length, map, drop, if◌then◌else◌}
use Rattle.std.specs.List.{join_with_byte, slice_split}
use Rattle.text_lines.specs.Lines.{is_feed}
use Rattle.lex_words.specs.Lines.{kept_of}
use Rattle.lex_words.specs.declared.sieves.Sieve.{Sieve}

-- the greatest number of bytes of a line that are held back: a line with that many is not a word, whatever follows
abbrev pub most_held : ℕ
most_held = 20

-- the bytes that are held back, with one more
abbrev pub held_with : List ℕ → ℕ → List ℕ
held_with held byte = if nat_lt (length held) most_held then held ++ byte ∷ [] else held

-- what is kept of lines, when some bytes of the first were held back
abbrev pub kept_by : (first : Bool) → (held : List ℕ) → List (List ℕ) → List (List ℕ)
kept_by first held [] = []
kept_by first held (line ∷ lines) = kept_of first (held ++ line) ∷ map (kept_of false) lines

-- what is kept of a text, when some bytes of its first line were held back
unfoldable pub words_from : (first : Bool) → (held : List ℕ) → (text : List ℕ) → List ℕ
words_from first held text = join_with_byte 10 (kept_by first held (slice_split is_feed text))

-- what is left to be given out: what is ready, and what is kept of the text after it, which is a chunk and what a reader has, if that is known
unfoldable pub remaining_of : (ready : List ℕ) → (first : Bool) → (held chunk : List ℕ) → Option (List ℕ) → Option (List ℕ)
remaining_of ready first held chunk known = option_map (λ rest. ready ++ words_from first held (chunk ++ rest)) known

-- the same for a sieve, and what its reader has
abbrev pub remaining_in : Sieve → Option (List ℕ) → Option (List ℕ)
remaining_in s remaining = remaining_of (drop s.given s.ready.items) s.line.is_first s.line.held.items (drop s.taken s.chunk.items) remaining

-- what is left of a reader to be given out, through a sieve; without a sieve, it is given as it is
abbrev pub remaining_by : Option Sieve → Option (List ℕ) → Option (List ℕ)
remaining_by None remaining = remaining
remaining_by (Some s) remaining = remaining_in s remaining
