-- How often a test holds in a list.
use Rattle.std.proofs.Common.{◌≡◌, ℕ, ◌+◌, Bool, false, if◌then◌else◌, List, [], ◌∷◌, ◌++◌, map, refl, ap, arith}

-- one if the test holds
abbrev pub once : Bool → ℕ
once b = if b then 1 else 0

abbrev pub tally : {X : Type 0} → (X → Bool) → List X → ℕ
tally p [] = 0
tally p (x ∷ xs) = once (p x) + tally p xs

pub tally-append : {X : Type 0} (p : X → Bool) (xs ys : List X) → tally p (xs ++ ys) ≡ tally p xs + tally p ys
tally-append p [] ys = omega arith
tally-append p (x ∷ xs) ys = let e = tally-append p xs ys in omega arith

pub tally-map : {X Y : Type 0} (p : Y → Bool) (f : X → Y) (xs : List X) → tally p (map f xs) ≡ tally (λ x. p (f x)) xs
tally-map p f [] = refl
tally-map p f (x ∷ xs) = ap (λ n. once (p (f x)) + n) (tally-map p f xs)

pub tally-never : {X : Type 0} (p : X → Bool) → ((x : X) → p x ≡ false) → (xs : List X) → tally p xs ≡ 0
tally-never p h [] = refl
tally-never p h (x ∷ xs) = rw (h x) (rw (tally-never p h xs))
