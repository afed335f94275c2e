-- The order of strings of labels, and the paths of a word, computed.
use Rattle.std.proofs.Common.{◌≡◌, [], ◌∷◌, inl, inr, refl, arith}
use Rattle.std.specs.Prelude.{codes, map}
use Rattle.lex_check.specs.Orders.{IsBefore}
use Rattle.lex_check.specs.Rotations.{paths_of}
use Rattle.lex_check.specs.Checks.{symbol_of}

-- a string is before all longer strings that begin with it
front_first : IsBefore (20 ∷ []) (20 ∷ 1 ∷ [])
front_first = inr (refl, tt)

-- the mark is before the letters
mark_first : IsBefore (1 ∷ 0 ∷ 20 ∷ []) (1 ∷ 1 ∷ [])
mark_first = inr (refl, inl (omega arith))

-- no string is before itself
not_itself : IsBefore (1 ∷ []) (1 ∷ []) → ⊥
not_itself (inl lt) = omega arith
not_itself (inr before) = before.1

-- the paths of AT
paths_of_at : map (map symbol_of) (paths_of (codes "AT") 2) ≡ codes "A+T" ∷ codes "TA" ∷ []
unfolding paths_of
paths_of_at = refl
