-- Capitals that are blanks, by the rack that their line states.
use Rattle.std.specs.Prelude.{ℕ, ◌-◌, ◌==◌, ◌&&◌, nat_lt, Bool, true, false, List, [], ◌∷◌, Option, Some, None, if◌then◌else◌}
use Rattle.std.specs.List.{count_by}
use Rattle.ref_tiles.specs.Counting.{count_of, with_count}
use Rattle.ref_tiles.specs.declared.kinds.Kind.{Kind}
use Rattle.ref_tiles.specs.declared.kinds.Kind.TheVariants as tile
use Rattle.ref_tiles.specs.declared.symbols.Symbol.{Symbol}
use Rattle.ref_tiles.specs.declared.symbols.Symbol.TheVariants as symbol
use Rattle.gcg_read.specs.declared.events.EventKind.{EventKind}
use Rattle.gcg_read.specs.declared.events.EventKind.TheVariants as kind

-- Of the tiles that are left a capital has none, but there is a blank: it is that blank.
abbrev pub as_laid : (remaining : List ℕ) → Symbol → Symbol
as_laid remaining symbol.Dot = symbol.Dot
as_laid remaining (symbol.Letter l) = if count_of remaining (tile.Letter l) == 0 && nat_lt 0 (count_of remaining tile.Blank) then symbol.Blank l else symbol.Letter l
as_laid remaining (symbol.Blank l) = symbol.Blank l

-- the tiles without one of a kind, if there is one
abbrev pub less : (remaining : List ℕ) → Kind → List ℕ
less remaining k = if nat_lt 0 (count_of remaining k) then with_count remaining k (count_of remaining k - 1) else remaining

-- those that are left behind a symbol
abbrev pub remaining_after : (remaining : List ℕ) → Symbol → List ℕ
remaining_after remaining symbol.Dot = remaining
remaining_after remaining (symbol.Letter l) = less remaining (tile.Letter l)
remaining_after remaining (symbol.Blank l) = less remaining tile.Blank

-- the symbols of a word, each of which uses up a tile
abbrev pub laid_from : (remaining : List ℕ) → List Symbol → List Symbol
laid_from remaining [] = []
laid_from remaining (s ∷ word) = as_laid remaining s ∷ laid_from (remaining_after remaining (as_laid remaining s)) word

-- A word with a small letter for each capital that is a blank. One whose line states no rack stays as it is.
abbrev pub laid_by : (rack : Option (List ℕ)) → List Symbol → List Symbol
laid_by None word = word
laid_by (Some tiles) word = laid_from tiles word

-- ---- events

abbrev pub is_blank : Symbol → Bool
is_blank (symbol.Blank l) = true
is_blank other = false

abbrev pub count_blanks : List Symbol → ℕ
count_blanks word = count_by is_blank word

-- a play in whose word a capital is a blank
abbrev pub has_capital : (rack : Option (List ℕ)) → EventKind → Bool
has_capital rack (kind.Play at d word) = nat_lt (count_blanks word) (count_blanks (laid_by rack word))
has_capital rack other = false

-- a play in whose word there is a blank
abbrev pub has_blank : EventKind → Bool
has_blank (kind.Play at d word) = nat_lt 0 (count_blanks word)
has_blank other = false
