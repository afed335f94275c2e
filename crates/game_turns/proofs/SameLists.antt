-- Lists that are compared item by item.
use Rattle.std.proofs.Common.{◌≡◌, ℕ, zero, suc, ◌+◌, ◌<◌, ◌≤◌, List, [], ◌∷◌, length, take, get_or, refl, sym, ap, ◌∙◌, arith}
use Rattle.std.proofs.lemmas.List.{take_all}
use Rattle.arrayvec.specs.ArrayVec.{ArrayVec}
use Rattle.ref_play.specs.Words.{items_of}

-- the items before a place are the same
abbrev pub SameTo : {X : Type 0} → (xs ys : List X) → (end : ℕ) → Type 0
SameTo xs ys end = take end xs ≡ take end ys

pub same_more : {X : Type 0} (xs ys : List X) (n : ℕ) (a b : X) → n < length xs → n < length ys → a ≡ get_or xs n a → b ≡ get_or ys n b → a ≡ b → SameTo xs ys n → SameTo xs ys (n + 1)
same_more [] ys n a b within also of_a of_b is so = absurd (omega (arith, within))
same_more (x ∷ xs) [] n a b within also of_a of_b is so = absurd (omega (arith, also))
same_more {X} (x ∷ xs) (y ∷ ys) zero a b within also of_a of_b is so =
    let head : x ≡ y = sym of_a ∙ is ∙ of_b in
    ap (λ (z : X). z ∷ []) head
same_more {X} (x ∷ xs) (y ∷ ys) (suc n) a b within also of_a of_b is so =
    let head : x ≡ y = cc in
    let rest : take n xs ≡ take n ys = cc in
    let tail = same_more xs ys n a b (omega (arith, within)) (omega (arith, also)) of_a of_b is rest in
    let step : suc n + 1 ≡ suc (n + 1) = omega arith in
    ap (λ (m : ℕ). take m (x ∷ xs)) step ∙ ap (λ (z : X). z ∷ take (n + 1) xs) head ∙ ap (λ (zs : List X). y ∷ zs) tail ∙ ap (λ (m : ℕ). take m (y ∷ ys)) (sym step)

pub other_here : {X : Type 0} (xs ys : List X) (n : ℕ) (a b : X) → n < length xs → a ≡ get_or xs n a → b ≡ get_or ys n b → (a ≡ b → ⊥) → xs ≡ ys → ⊥
other_here {X} xs ys n a b within of_a of_b apart same =
    apart (of_a ∙ ap (λ (zs : List X). get_or zs n a) same ∙ again ys n a b (ends within same) ∙ sym of_b)
  where
    ends : n < length xs → xs ≡ ys → n < length ys
    ends less is = let long : length xs ≡ length ys = ap (λ (zs : List X). length zs) is in omega (arith, less, long)

    again : (zs : List X) (k : ℕ) (d e : X) → k < length zs → get_or zs k d ≡ get_or zs k e
    again [] k d e less = absurd (omega (arith, less))
    again (z ∷ zs) zero d e less = refl
    again (z ∷ zs) (suc k) d e less = again zs k d e (omega (arith, less))

pub same_all : {X : Type 0} (xs ys : List X) (n : ℕ) → length xs ≡ length ys → length xs ≤ n → SameTo xs ys n → xs ≡ ys
same_all xs ys n long all so = sym (take_all n xs (omega (arith, all))) ∙ so ∙ take_all n ys (omega (arith, all, long))

-- ---- the letters of words

pub item_at : (words : List (ArrayVec ℕ)) (n : ℕ) (word : ArrayVec ℕ) → word ≡ get_or words n word → word.items ≡ get_or (items_of words) n word.items
item_at [] n word is = refl
item_at (w ∷ words) zero word is = ap (λ (v : ArrayVec ℕ). v.items) is
item_at (w ∷ words) (suc n) word is = item_at words n word is

pub as_many : (words : List (ArrayVec ℕ)) → length (items_of words) ≡ length words
as_many [] = refl
as_many (w ∷ words) = ap suc (as_many words)
