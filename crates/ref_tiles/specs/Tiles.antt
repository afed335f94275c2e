-- What a tile may show.
use Rattle.std.specs.Prelude.{Bool, true, ◌==◌}
use Rattle.ref_tiles.specs.declared.letters.Letter.{Letter}
use Rattle.ref_tiles.specs.declared.kinds.Kind.{Kind}
use Rattle.ref_tiles.specs.declared.kinds.Kind.TheVariants as kind

-- a letter shows itself, and a blank any letter
abbrev pub can_show : Kind → Letter → Bool
can_show (kind.Letter l) shown = l.index == shown.index
can_show kind.Blank shown = true
