-- The old tiles right after an anchor, with which the walk from there begins.
use Rattle.std.specs.Prelude.{ℕ, Bool, List, [], ◌∷◌}
use Rattle.gen_line.specs.declared.cells.Cell.{Cell}
use Rattle.gen_line.specs.declared.cells.Cell.TheVariants.{Old, Free}
use Rattle.gen_line.specs.Moves.{Labelled, AreSplits}

-- the labels of the old tiles with which some cells begin
abbrev pub olds : List Cell → List ℕ
olds [] = []
olds (Old a ∷ cs) = a ∷ olds cs
olds (Free m ∷ cs) = []

-- a test of strings has the paths of the splits of some words, and the labels of a line's tiles are greater than the mark
pub record IsSpelt (g : List ℕ → Bool) (line : List Cell) : Type 0 where
  pub listed : List ℕ → Bool
  pub splits : AreSplits g listed
  pub labels : Labelled line
