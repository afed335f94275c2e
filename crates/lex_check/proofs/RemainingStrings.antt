-- A string that is left of one of some paths is a tail of their stretch.
use Rattle.std.proofs.Common.{◌≡◌, ℕ, zero, suc, ◌+◌, ◌-◌, Bool, true, false, ◌||◌, List, refl, sym, ap, subst, ◌∙◌, arith}
use Rattle.std.specs.Prelude.{nat_eq}
use Rattle.std.specs.Cmp.Lexicographic.{pointwise}
use Rattle.std.proofs.lemmas.Bool.{false≢true}
use Rattle.std.proofs.lemmas.Slice.Eq.{bytes_eq-Decides}
use Rattle.lex_check.specs.declared.sorted.Stretch.{Stretch}
use Rattle.lex_check.specs.Stretches.{remaining_at, is_remaining, IsStretch, stretch_tail}
use Rattle.lex_check.specs.laws.Stretches.{IsRemaining}

same_string : (x y : List ℕ) → x ≡ y → pointwise nat_eq x y ≡ true
same_string x y e = (bytes_eq-Decides x y).1 e

pub remaining_from : (paths : List (List ℕ)) (depth : ℕ) (string : List ℕ) (low count : ℕ) → IsRemaining paths depth string low (low + count)
    → is_remaining paths depth string low count ≡ true
unfolding is_remaining
remaining_from paths depth string low zero at = absurd (let h = at.from in let k = at.to in omega arith)
remaining_from paths depth string low (suc count) at =
    by (pointwise nat_eq string (remaining_at paths depth low)) refl (remaining_from paths depth string (suc low) count)
  where
    by : (b : Bool) → pointwise nat_eq string (remaining_at paths depth low) ≡ b
        → (IsRemaining paths depth string (suc low) (suc low + count) → is_remaining paths depth string (suc low) count ≡ true)
        → (b || is_remaining paths depth string (suc low) count) ≡ true
    by true e more = refl
    by false e more =
        let from = at.from in
        let to = at.to in
        let other : at.place ≡ low → ⊥ = λ same. false≢true (sym e ∙ same_string string (remaining_at paths depth low) (at.remaining ∙ ap (remaining_at paths depth) same)) in
        more (record { place = at.place; from = omega arith; to = omega arith; remaining = at.remaining })

pub tail_from : (paths : List (List ℕ)) (stretch : Stretch) (string : List ℕ) → IsStretch paths stretch
    → IsRemaining paths stretch.depth string stretch.low stretch.high → stretch_tail paths stretch string ≡ true
tail_from paths stretch string is at =
    let order = is.order in
    let high : stretch.high ≡ stretch.low + (stretch.high - stretch.low) = omega arith in
    remaining_from paths stretch.depth string stretch.low (stretch.high - stretch.low) (subst (IsRemaining paths stretch.depth string stretch.low) high at)
