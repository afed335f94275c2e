-- Numbers that count only if a condition holds.
use Rattle.std.proofs.Common.{◌≡◌, ℕ, ◌+◌, ◌-◌, ◌≤◌, ◌&&◌, not, Bool, true, false, refl, arith}
use Rattle.deal_cuts.specs.Cutting.{where_so}

pub where_so-zero : (so : Bool) → where_so so 0 ≡ 0
unfolding where_so
where_so-zero true = refl
where_so-zero false = refl

pub where_so-not : (so : Bool) (n : ℕ) → where_so so n + where_so (not so) n ≡ n
unfolding where_so
where_so-not true n = omega arith
where_so-not false n = omega arith

pub where_so-le : (so : Bool) (m n : ℕ) → m ≤ n → where_so so m ≤ where_so so n
unfolding where_so
where_so-le true m n below = below
where_so-le false m n below = omega arith

-- four numbers together are at most four others
pub where_so-sums : (so : Bool) (a b c d e f g h : ℕ) → a + b + c + d ≤ e + f + g + h
    → where_so so a + where_so so b + where_so so c + where_so so d ≤ where_so so e + where_so so f + where_so so g + where_so so h
unfolding where_so
where_so-sums true a b c d e f g h below = below
where_so-sums false a b c d e f g h below = omega arith

-- What a bag gives and gets, by whether it is inside before and after, and whether the known tiles that leave a rack go to it.
pub bag_law : (was is gets : Bool) (bag after drawn1 drawn2 thrown1 thrown2 left1 left2 size drawn : ℕ)
    → after + drawn1 + drawn2 ≡ bag + thrown1 + thrown2 + where_so gets (left1 + left2)
    → drawn1 + drawn2 ≤ bag → bag + drawn ≤ size + drawn1 + drawn2
    → where_so was bag + where_so is thrown1 + where_so is thrown2 + where_so (gets && is) left1 + where_so (gets && is) left2
    ≤ where_so was drawn1 + where_so was drawn2 + where_so is after + where_so (was && not is) (size - drawn)
unfolding where_so
bag_law true true true bag after drawn1 drawn2 thrown1 thrown2 left1 left2 size drawn same few rest = omega arith
bag_law true true false bag after drawn1 drawn2 thrown1 thrown2 left1 left2 size drawn same few rest = omega arith
bag_law true false true bag after drawn1 drawn2 thrown1 thrown2 left1 left2 size drawn same few rest = omega arith
bag_law true false false bag after drawn1 drawn2 thrown1 thrown2 left1 left2 size drawn same few rest = omega arith
bag_law false true true bag after drawn1 drawn2 thrown1 thrown2 left1 left2 size drawn same few rest = omega arith
bag_law false true false bag after drawn1 drawn2 thrown1 thrown2 left1 left2 size drawn same few rest = omega arith
bag_law false false true bag after drawn1 drawn2 thrown1 thrown2 left1 left2 size drawn same few rest = omega arith
bag_law false false false bag after drawn1 drawn2 thrown1 thrown2 left1 left2 size drawn same few rest = omega arith
