-- Squares that are closed to a rack, computed. A is letter 0 and S is letter 18; a rack counts the tiles of each letter, and blanks last.
use Rattle.std.proofs.Common.{true, false, [], ◌∷◌, ◌++◌, replicate, refl, sym, arith}
use Rattle.std.proofs.lemmas.Bool.{agree_below_at, false≢true}
use Rattle.gen_line.specs.declared.cells.Cell.TheVariants.{Old, Free}
use Rattle.gen_line.specs.declared.cells.Open.{Open}
use Rattle.gen_moves.specs.Closing.{lays, IsClosed}

-- a square that allows only S
abbrev only_s : Open
only_s = record { mask = replicate 18 false ++ true ∷ replicate 7 false; anchor = true }

-- no tile of a rack with one A can be laid there; S and a blank can
closed_to_a : IsClosed (1 ∷ replicate 26 0) (Free only_s)
closed_to_a k below = agree_below_at (λ i. lays only_s (1 ∷ replicate 26 0) i) (λ i. false) 26 k refl below

open_to_s : IsClosed (replicate 18 0 ++ 1 ∷ replicate 8 0) (Free only_s) → ⊥
open_to_s closed = false≢true (sym (closed 18 (omega arith)))

open_to_blank : IsClosed (replicate 26 0 ++ 1 ∷ []) (Free only_s) → ⊥
open_to_blank closed = false≢true (sym (closed 18 (omega arith)))

-- a square with a tile is not closed, whatever the rack is
open_where_old : IsClosed (replicate 27 0) (Old 20) → ⊥
open_where_old closed = closed
