-- Letters and their places.
use Rattle.std.proofs.Common.{◌≡◌, ℕ, ◌<◌, ◌≤◌, Bool, true, false, nat_lt, Some, None, refl, ap, subst, arith, ltb-true}
use denote.Struct.Props.{props}
use Rattle.std.proofs.lemmas.Bool.Decides.{nat_tests}
use Rattle.ref_tiles.specs.declared.letters.Letter.{Letter}
use Rattle.ref_tiles.specs.Letters.{letter_if, letter_at}

-- letters at the same place are equal
pub same_letter : (a b : Letter) → a.index ≡ b.index → a ≡ b
same_letter a b e =
    let irrelevant : IsProp (a.index < 26) = hlevel props in
    subst (λ (n : ℕ). (q : n < 26) → a ≡ record { index = n; in_range = q }) e (λ q. ap (λ (r : a.index < 26). let l : Letter = record { index = a.index; in_range = r } in l) (irrelevant a.in_range q)) b.in_range

letter_if-letter : (l : Letter) (b : Bool) (e : nat_lt l.index 26 ≡ b) → letter_if l.index b e ≡ Some l
letter_if-letter l true e = ap Some (same_letter (record { index = l.index; in_range = ltb-true l.index 26 e }) l refl)
letter_if-letter l false e = let in_range = l.in_range in absurd (grind (arith, nat_tests))

pub letter_at_letter : (l : Letter) → letter_at l.index ≡ Some l
unfolding letter_at
letter_at_letter l = letter_if-letter l (nat_lt l.index 26) refl

letter_if-past : (n : ℕ) (b : Bool) (e : nat_lt n 26 ≡ b) → 26 ≤ n → letter_if n b e ≡ None
letter_if-past n true e h = let below = ltb-true n 26 e in absurd (omega arith)
letter_if-past n false e h = refl

pub letter_at_past : (n : ℕ) → 26 ≤ n → letter_at n ≡ None
unfolding letter_at
letter_at_past n h = letter_if-past n (nat_lt n 26) refl h
