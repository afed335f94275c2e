-- What the rules say about a kind and about a square.
use Rattle.std.specs.Prelude.{ℕ, slice_index, slice_index_or}
use Rattle.ref_tiles.specs.declared.kinds.Kind.{Kind}
use Rattle.ref_tiles.specs.declared.kinds.Kind.TheVariants as kind
use Rattle.ref_tiles.specs.declared.premiums.Premium.{Premium}
use Rattle.ref_tiles.specs.declared.premiums.Premium.TheVariants as premium
use Rattle.ref_tiles.specs.declared.rulebook.Rules.{Rules}

-- the points of a kind: a blank has none
abbrev pub points_of : Rules → Kind → ℕ
points_of rules (kind.Letter l) = slice_index rules.points l.index
points_of rules kind.Blank = 0

-- the premium of the square with this number, 15 * row + column, both from 0
abbrev pub premium_at : Rules → ℕ → Premium
premium_at rules square = slice_index_or rules.premiums square premium.Plain

-- the factor of a premium for the points of the tile put there
abbrev pub letter_factor : Premium → ℕ
letter_factor premium.DoubleLetter = 2
letter_factor premium.TripleLetter = 3
letter_factor _ = 1

-- the factor of a premium for the words through a tile put there
abbrev pub word_factor : Premium → ℕ
word_factor premium.DoubleWord = 2
word_factor premium.TripleWord = 3
word_factor _ = 1
