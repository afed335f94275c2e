-- The two ways to make a tile.
use Rattle.std.specs.Prelude.{IsTrue, refl}
use Rattle.std.proofs.Common.{eq-eqb, lit<}
use Rattle.ref_tiles.specs.declared.letters.Letter.{Letter}
use Rattle.ref_tiles.specs.declared.tiles.Tile.{Tile}
use Rattle.ref_tiles.specs.declared.kinds.Kind.TheVariants as kind
use Rattle.ref_tiles.specs.Tiles.{can_show}

pub can_show_itself : (l : Letter) → IsTrue (can_show (kind.Letter l) l)
can_show_itself l = eq-eqb l.index l.index refl

-- the tile that bears a letter
abbrev pub letter_tile : Letter → Tile
letter_tile l = record { kind = kind.Letter l; shown = l; proper = can_show_itself l }

-- a blank that stands for a letter
abbrev pub blank_tile : Letter → Tile
blank_tile l = record { kind = kind.Blank; shown = l; proper = refl }

abbrev pub letter_a : Letter
letter_a = record { index = 0; in_range = lit< tt }
