-- Lists that agree up to a place, and lists joined there.
use Rattle.std.proofs.Common.{◌≡◌, ℕ, zero, suc, ◌<◌, ◌≤◌, List, [], ◌∷◌, ◌++◌, length, take, drop, slice_get, None, refl, sym, ap, ◌∙◌, arith}
use Rattle.std.proofs.lemmas.List.{take_all}
use Rattle.std.proofs.lemmas.Option.{same_Some}

pub get_take : {X : Type 0} (xs : List X) (n k : ℕ) → k < n → slice_get (take n xs) k ≡ slice_get xs k
get_take xs zero k below = absurd (omega (arith, below))
get_take [] (suc n) k below = refl
get_take (x ∷ xs) (suc n) zero below = refl
get_take (x ∷ xs) (suc n) (suc k) below = get_take xs n k (omega (arith, below))

pub take_less : {X : Type 0} (xs : List X) (n k : ℕ) → k ≤ n → take k (take n xs) ≡ take k xs
take_less xs n zero within = refl
take_less xs zero (suc k) within = absurd (omega (arith, within))
take_less [] (suc n) (suc k) within = refl
take_less {X} (x ∷ xs) (suc n) (suc k) within = ap (λ (ys : List X). x ∷ ys) (take_less xs n k (omega (arith, within)))

pub same_take : {X : Type 0} (xs ys : List X) (k : ℕ) → ((j : ℕ) → j < k → slice_get xs j ≡ slice_get ys j) → take k xs ≡ take k ys
same_take xs ys zero same = refl
same_take [] [] (suc k) same = refl
same_take [] (y ∷ ys) (suc k) same = cc (same 0 (omega arith))
same_take (x ∷ xs) [] (suc k) same = cc (same 0 (omega arith))
same_take {X} (x ∷ xs) (y ∷ ys) (suc k) same =
    let head : x ≡ y = same_Some x y (same 0 (omega arith)) in
    let tail : take k xs ≡ take k ys = same_take xs ys k (λ j below. same (suc j) (omega arith)) in
    ap (λ (z : X). z ∷ take k xs) head ∙ ap (λ (zs : List X). y ∷ zs) tail

-- the first elements of a list, with others after them
pub get_front : {X : Type 0} (xs rest : List X) (n k : ℕ) → k < n → n ≤ length xs → slice_get (take n xs ++ rest) k ≡ slice_get xs k
get_front [] rest n k below within = absurd (omega (arith, below, within))
get_front (x ∷ xs) rest zero k below within = absurd (omega (arith, below))
get_front (x ∷ xs) rest (suc n) zero below within = refl
get_front (x ∷ xs) rest (suc n) (suc k) below within = get_front xs rest n k (omega (arith, below)) (omega (arith, within))

drop_none : {X : Type 0} (n : ℕ) → drop {A = X} n [] ≡ []
drop_none zero = refl
drop_none (suc n) = refl

pub get_after : {X : Type 0} (xs ys : List X) (n k : ℕ) → n ≤ length xs → n ≤ k → slice_get (take n xs ++ drop n ys) k ≡ slice_get ys k
get_after xs ys zero k within following = refl
get_after [] ys (suc n) k within following = absurd (omega (arith, within))
get_after (x ∷ xs) ys (suc n) zero within following = absurd (omega (arith, following))
get_after {X} (x ∷ xs) [] (suc n) (suc k) within following =
    ap (λ (zs : List X). slice_get (take n xs ++ zs) k) (sym (drop_none n)) ∙ get_after xs [] n k (omega (arith, within)) (omega (arith, following))
get_after (x ∷ xs) (y ∷ ys) (suc n) (suc k) within following = get_after xs ys n k (omega (arith, within)) (omega (arith, following))

pub take_front : {X : Type 0} (xs rest : List X) (n k : ℕ) → k ≤ n → n ≤ length xs → take k (take n xs ++ rest) ≡ take k xs
take_front xs rest n k less within = same_take (take n xs ++ rest) xs k (λ j below. get_front xs rest n j (omega (arith, less, below)) within)

pub past_of : {X : Type 0} (xs : List X) (k : ℕ) → slice_get xs k ≡ None → length xs ≤ k
past_of [] k none = omega arith
past_of (x ∷ xs) zero none = cc
past_of (x ∷ xs) (suc k) none = let rest = past_of xs k none in omega (arith, rest)

-- lists with the same elements at each place
pub same_items : {X : Type 0} (xs ys : List X) → length xs ≡ length ys → take (length xs) xs ≡ take (length xs) ys → xs ≡ ys
same_items {X} xs ys long same =
    sym (take_all (length xs) xs (omega arith)) ∙ same ∙ ap (λ (n : ℕ). take n ys) long ∙ take_all (length ys) ys (omega arith)
