-- The order of repairs is strict: nothing is ahead of itself, and of two at most one is ahead of the other.
use Rattle.std.proofs.Common.{◌≡◌, ℕ, true, false, ◌&&◌, ◌||◌, ◌==◌, nat_lt, sym, ap, ◌∙◌, arith}
use Rattle.std.proofs.lemmas.Bool.Decides.{nat_tests}
use Rattle.repair_single.specs.Costs.{Rank, is_ahead}

never_both : (c d p q i j : ℕ) → (nat_lt c d || c == d && (nat_lt p q || p == q && nat_lt i j)) ≡ true → (nat_lt d c || d == c && (nat_lt q p || q == p && nat_lt j i)) ≡ false
never_both c d p q i j is = grind (arith, nat_tests)

never_itself : (c p i : ℕ) → (nat_lt c c || c == c && (nat_lt p p || p == p && nat_lt i i)) ≡ false
never_itself c p i = grind (arith, nat_tests)

pub not_both : (a b : Rank) → is_ahead a b ≡ true → is_ahead b a ≡ false
not_both a b is = never_both a.cost b.cost a.place b.place a.index b.index is

pub not_itself : (a b : Rank) → a ≡ b → is_ahead a b ≡ false
not_itself a b same = ap (is_ahead a) (sym same) ∙ never_itself a.cost a.place a.index
