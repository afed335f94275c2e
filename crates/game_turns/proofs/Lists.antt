-- Tests over successive numbers, and products.
use Rattle.std.proofs.Common.{◌≡◌, ℕ, suc, ◌+◌, ◌-◌, ◌*◌, ◌<◌, ◌≤◌, Bool, true, false, ◌∷◌, sym, ap, ◌∙◌, arith, ◌||◌}
use Rattle.std.specs.List.{list_any, range_with_len}
use Rattle.std.proofs.Math.Nat.{mul-le-mul}

-- the numbers from n up to the last one
range_step : (n last : ℕ) → n < last + 1 → range_with_len n (last + 1 - n) ≡ n ∷ range_with_len (n + 1) (last + 1 - (n + 1))
range_step n last h =
    let more : last + 1 - n ≡ suc (last + 1 - (n + 1)) = omega arith in
    ap (range_with_len n) more

pub any_more : (p : ℕ → Bool) (n last : ℕ) → n < last + 1 → p n ≡ false
    → list_any p (range_with_len (n + 1) (last + 1 - (n + 1))) ≡ list_any p (range_with_len n (last + 1 - n))
any_more p n last h e = sym (ap (list_any p) (range_step n last h) ∙ ap (λ b. b || list_any p (range_with_len (n + 1) (last + 1 - (n + 1)))) e)

pub any_here : (p : ℕ → Bool) (n last : ℕ) → n < last + 1 → p n ≡ true → list_any p (range_with_len n (last + 1 - n)) ≡ true
any_here p n last h e = ap (list_any p) (range_step n last h) ∙ ap (λ b. b || list_any p (range_with_len (n + 1) (last + 1 - (n + 1)))) e

-- the most points that a number of tiles of a kind can have
pub points_limit : (count points : ℕ) → count ≤ 255 → points ≤ 99 → count * points ≤ 25245
points_limit count points h g = mul-le-mul h g
