-- Laws of stretches: which strings are tails, and that tails are strings of labels, not empty and short.
use Rattle.std.proofs.Common.{◌≡◌, ℕ, zero, suc, ◌+◌, ◌-◌, ◌<◌, ◌≤◌, Bool, true, false, ◌||◌, List, [], length, get_or, length-drop, refl, ap, subst, ◌∙◌, arith}
use Rattle.std.specs.Prelude.{IsTrue, nat_eq}
use Rattle.std.specs.Cmp.Lexicographic.{pointwise}
use Rattle.std.specs.List.{list_all}
use Rattle.std.proofs.lemmas.Bool.{false≢true}
use Rattle.std.proofs.lemmas.Slice.Eq.{bytes_eq-Decides}
use Rattle.lex_file.specs.Lexicons.{is_label}
use Rattle.lex_check.specs.declared.sorted.Stretch.{Stretch}
use Rattle.lex_check.specs.Stretches.{remaining_at, is_remaining, IsStretch, stretch_tail}

one_string : (x y : List ℕ) → pointwise nat_eq x y ≡ true → x ≡ y
one_string x y e = (bytes_eq-Decides x y).0 e

-- a path at some of the places has this string left
pub record IsRemaining (paths : List (List ℕ)) (depth : ℕ) (string : List ℕ) (low high : ℕ) : Type 0 where
  pub place : ℕ
  pub from : low ≤ place
  pub to : place < high
  pub remaining : string ≡ remaining_at paths depth place

pub remaining_to : (paths : List (List ℕ)) (depth : ℕ) (string : List ℕ) (low count : ℕ) → is_remaining paths depth string low count ≡ true
    → IsRemaining paths depth string low (low + count)
unfolding is_remaining
remaining_to paths depth string low zero e = absurd (false≢true e)
remaining_to paths depth string low (suc count) e =
    by (pointwise nat_eq string (remaining_at paths depth low)) refl (remaining_to paths depth string (suc low) count) e
  where
    by : (b : Bool) → pointwise nat_eq string (remaining_at paths depth low) ≡ b
        → (is_remaining paths depth string (suc low) count ≡ true → IsRemaining paths depth string (suc low) (suc low + count))
        → (b || is_remaining paths depth string (suc low) count) ≡ true → IsRemaining paths depth string low (low + suc count)
    by true same more h = record { place = low; from = omega arith; to = omega arith; remaining = one_string string (remaining_at paths depth low) same }
    by false other more h =
        let at = more h in
        let from = at.from in
        let to = at.to in
        record { place = at.place; from = omega arith; to = omega arith; remaining = at.remaining }

pub tail_to : (paths : List (List ℕ)) (stretch : Stretch) (string : List ℕ) → IsStretch paths stretch → stretch_tail paths stretch string ≡ true
    → IsRemaining paths stretch.depth string stretch.low stretch.high
tail_to paths stretch string is e =
    let order = is.order in
    let high : stretch.low + (stretch.high - stretch.low) ≡ stretch.high = omega arith in
    subst (IsRemaining paths stretch.depth string stretch.low) high (remaining_to paths stretch.depth string stretch.low (stretch.high - stretch.low) e)

not_true : (b : Bool) → (b ≡ true → ⊥) → b ≡ false
not_true true h = absurd (h refl)
not_true false h = refl

pub tail_none : (paths : List (List ℕ)) (stretch : Stretch) (string : List ℕ) → IsStretch paths stretch
    → (IsRemaining paths stretch.depth string stretch.low stretch.high → ⊥) → stretch_tail paths stretch string ≡ false
tail_none paths stretch string is none = not_true (stretch_tail paths stretch string) (λ e. none (tail_to paths stretch string is e))

-- ---- what each tail is

pub stretch_nonempty : (paths : List (List ℕ)) (stretch : Stretch) → IsStretch paths stretch → stretch_tail paths stretch [] ≡ false
stretch_nonempty paths stretch is =
    tail_none paths stretch [] is (λ at.
    let long = is.long at.place at.from at.to in
    let size = ap length at.remaining in
    let remaining = length-drop stretch.depth (get_or paths at.place []) in
    omega arith)

pub stretch_labels : (paths : List (List ℕ)) (stretch : Stretch) (string : List ℕ) → IsStretch paths stretch → stretch_tail paths stretch string ≡ true
    → IsTrue (list_all is_label string)
stretch_labels paths stretch string is e =
    let at = tail_to paths stretch string is e in
    ap (list_all is_label) at.remaining ∙ is.labels at.place at.from at.to

pub stretch_bounded : (paths : List (List ℕ)) (stretch : Stretch) (string : List ℕ) → IsStretch paths stretch → stretch_tail paths stretch string ≡ true
    → length string ≤ 16 - stretch.depth
stretch_bounded paths stretch string is e =
    let at = tail_to paths stretch string is e in
    let few = is.few at.place at.from at.to in
    let size = ap length at.remaining in
    let remaining = length-drop stretch.depth (get_or paths at.place []) in
    omega arith
