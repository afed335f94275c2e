-- Sums and products over successive numbers.
use Rattle.std.proofs.Common.{◌≡◌, ℕ, zero, suc, ◌+◌, ◌-◌, ◌*◌, ◌<◌, ◌≤◌, Bool, true, false, nat_le, if◌then◌else◌, List, [], ◌++◌, map, length, sum_by, refl, sym, ap, ◌∙◌, append-nil, append_assoc, arith, Option, Some, None}
use Rattle.std.proofs.lemmas.List.Sums.{sum_by-cons}
use Rattle.std.proofs.Math.Nat.{mul_assoc, mul-le-mul}
use Rattle.ref_tiles.specs.declared.tiles.Tile.{Tile}
use Rattle.ref_board.specs.declared.directions.Dir.{Dir}
use Rattle.ref_board.specs.Lines.{square_at}
use Rattle.ref_play.specs.declared.placed.Placed.{Placed}
use Rattle.ref_play.specs.Scores.{product}
use Rattle.ref_play.specs.Texts.{placed_on}
use Rattle.std.proofs.lemmas.Bool.{leb-true, leb-false}
use Rattle.gen_moves.specs.Bounds.{total, times, least}
use Rattle.gen_moves.proofs.Entering.{put_from}

pub total-first : (f : ℕ → ℕ) (a n : ℕ) → total f a (suc n) ≡ f a + total f (a + 1) n
unfolding total
total-first f a zero = let e : a + 0 ≡ a = omega arith in let h = ap f e in omega arith
total-first f a (suc n) =
    let more = total-first f a n in
    let e : a + suc n ≡ a + 1 + n = omega arith in
    let last = ap f e in
    omega arith

pub times-first : (f : ℕ → ℕ) (a n : ℕ) → times f a (suc n) ≡ f a * times f (a + 1) n
unfolding times
times-first f a zero = let e : a + 0 ≡ a = omega arith in let h = ap f e in omega arith
times-first f a (suc n) =
    let e : a + suc n ≡ a + 1 + n = omega arith in
    ap (λ m. m * f (a + suc n)) (times-first f a n)
    ∙ ap (λ m. f a * times f (a + 1) n * m) (ap f e)
    ∙ mul_assoc (f a) (times f (a + 1) n) (f (a + 1 + n))

pub total-mono : (f g : ℕ → ℕ) (a n : ℕ) → ((i : ℕ) → a ≤ i → i < a + n → f i ≤ g i) → total f a n ≤ total g a n
unfolding total
total-mono f g a zero h = omega arith
total-mono f g a (suc n) h =
    let fewer = total-mono f g a n (λ i low high. h i low (omega arith)) in
    let last = h (a + n) (omega arith) (omega arith) in
    omega arith

pub total-same : (f g : ℕ → ℕ) (a n : ℕ) → ((i : ℕ) → a ≤ i → i < a + n → f i ≡ g i) → total f a n ≡ total g a n
unfolding total
total-same f g a zero h = refl
total-same f g a (suc n) h =
    let fewer = total-same f g a n (λ i low high. h i low (omega arith)) in
    let last = h (a + n) (omega arith) (omega arith) in
    omega arith

distribute : (c x y : ℕ) → c * (x + y) ≡ c * x + c * y
distribute zero x y = omega arith
distribute (suc c) x y = let rest = distribute c x y in omega arith

-- a sum of products of which one factor does not exceed a number
pub total-times : (f g : ℕ → ℕ) (c a n : ℕ) → ((i : ℕ) → a ≤ i → i < a + n → f i * g i ≤ c * g i) → total (λ i. f i * g i) a n ≤ c * total g a n
unfolding total
total-times f g c a zero h = omega arith
total-times f g c a (suc n) h =
    let fewer = total-times f g c a n (λ i low high. h i low (omega arith)) in
    let last = h (a + n) (omega arith) (omega arith) in
    let spread = distribute c (total g a n) (g (a + n)) in
    omega arith

-- a sum of sums, one of them multiplied
pub total-scaled : (f g : ℕ → ℕ) (c a n : ℕ) → total (λ i. f i + c * g i) a n ≡ total f a n + c * total g a n
unfolding total
total-scaled f g c a zero = omega arith
total-scaled f g c a (suc n) =
    let fewer = total-scaled f g c a n in
    let spread = distribute c (total g a n) (g (a + n)) in
    omega arith

pub total-both : (f g : ℕ → ℕ) (a n : ℕ) → total (λ i. f i + g i) a n ≡ total f a n + total g a n
unfolding total
total-both f g a zero = refl
total-both f g a (suc n) = let fewer = total-both f g a n in omega arith

-- ---- the smaller of two numbers
pub least-first : (a b : ℕ) → least a b ≤ a
least-first a b = by (nat_le a b) refl
  where
    by : (t : Bool) → nat_le a b ≡ t → (if t then a else b) ≤ a
    by true e = omega arith
    by false e = let more = leb-false a b e in omega arith

pub least-second : (a b : ℕ) → least a b ≤ b
least-second a b = by (nat_le a b) refl
  where
    by : (t : Bool) → nat_le a b ≡ t → (if t then a else b) ≤ b
    by true e = leb-true a b e
    by false e = omega arith

pub least-both : (a b n : ℕ) → n ≤ a → n ≤ b → n ≤ least a b
least-both a b n one other = by (nat_le a b)
  where
    by : (t : Bool) → n ≤ (if t then a else b)
    by true = one
    by false = other

pub times-some : (f : ℕ → ℕ) (a n : ℕ) → ((i : ℕ) → 1 ≤ f i) → 1 ≤ times f a n
unfolding times
times-some f a zero h = omega arith
times-some f a (suc n) h = let fewer = times-some f a n h in let last = h (a + n) in let both = mul-le-mul fewer last in omega arith

-- ---- the tiles that a line's numbers put down

-- what one place gives
abbrev pub at_place : (Placed → ℕ) → Dir → ℕ → ℕ → Option Tile → ℕ
at_place f d line i None = 0
at_place f d line i (Some t) = f (record { square = square_at d line i; tile = t })

sum_placed : (f : Placed → ℕ) (d : Dir) (line i : ℕ) (o : Option Tile) (rest : List Placed) → sum_by f (placed_on (square_at d line i) o ++ rest) ≡ at_place f d line i o + sum_by f rest
sum_placed f d line i None rest = omega arith
sum_placed f d line i (Some t) rest = sum_by-cons f (record { square = square_at d line i; tile = t }) rest

pub sum_put : (f : Placed → ℕ) (d : Dir) (line : ℕ) (g : ℕ → Option Tile) (a n : ℕ) → sum_by f (put_from d line g a n) ≡ total (λ i. at_place f d line i (g i)) a n
unfolding total
sum_put f d line g a zero = refl
sum_put f d line g a (suc n) =
    sum_placed f d line a (g a) (put_from d line g (a + 1) n)
    ∙ ap (λ m. at_place f d line a (g a) + m) (sum_put f d line g (a + 1) n)
    ∙ sym (total-first (λ i. at_place f d line i (g i)) a n)

length_placed : (square : ℕ) (o : Option Tile) (rest : List Placed) (n : ℕ) → (o ≡ None → n ≡ 0) → ((t : Tile) → o ≡ Some t → n ≡ 1) → length (placed_on square o ++ rest) ≡ n + length rest
length_placed square None rest n none some = let e = none refl in omega arith
length_placed square (Some t) rest n none some = let e = some t refl in omega arith

pub count_put : (d : Dir) (line : ℕ) (g : ℕ → Option Tile) (h : ℕ → ℕ) (a n : ℕ) → ((i : ℕ) → a ≤ i → i < a + n → g i ≡ None → h i ≡ 0) → ((i : ℕ) → a ≤ i → i < a + n → (t : Tile) → g i ≡ Some t → h i ≡ 1)
    → length (put_from d line g a n) ≡ total h a n
unfolding total
count_put d line g h a zero none some = refl
count_put d line g h a (suc n) none some =
    length_placed (square_at d line a) (g a) (put_from d line g (a + 1) n) (h a) (none a (omega arith) (omega arith)) (some a (omega arith) (omega arith))
    ∙ ap (λ m. h a + m) (count_put d line g h (a + 1) n (λ i low high. none i (omega arith) (omega arith)) (λ i low high. some i (omega arith) (omega arith)))
    ∙ sym (total-first h a n)

product_placed : (f : Placed → ℕ) (square : ℕ) (o : Option Tile) (rest : List Placed) (m k : ℕ) → 1 ≤ m → ((t : Tile) → o ≡ Some t → f (record { square = square; tile = t }) ≤ m)
    → product (map f rest) ≤ k → product (map f (placed_on square o ++ rest)) ≤ m * k
product_placed f square None rest m k low some le = let both = mul-le-mul low le in omega arith
product_placed f square (Some t) rest m k low some le = mul-le-mul (some t refl) le

pub product_put : (f : Placed → ℕ) (d : Dir) (line : ℕ) (g : ℕ → Option Tile) (h : ℕ → ℕ) (a n : ℕ) → ((i : ℕ) → a ≤ i → i < a + n → 1 ≤ h i)
    → ((i : ℕ) → a ≤ i → i < a + n → (t : Tile) → g i ≡ Some t → f (record { square = square_at d line i; tile = t }) ≤ h i)
    → product (map f (put_from d line g a n)) ≤ times h a n
unfolding times
product_put f d line g h a zero low some = omega arith
product_put f d line g h a (suc n) low some =
    let rest = product_put f d line g h (a + 1) n (λ i x y. low i (omega arith) (omega arith)) (λ i x y. some i (omega arith) (omega arith)) in
    let both = product_placed f (square_at d line a) (g a) (put_from d line g (a + 1) n) (h a) (times h (a + 1) n) (low a (omega arith) (omega arith)) (some a (omega arith) (omega arith)) rest in
    let e = times-first h a n in
    rw e both

-- nothing is put down outside a stretch
put_none : (d : Dir) (line : ℕ) (g : ℕ → Option Tile) (a n : ℕ) → ((i : ℕ) → a ≤ i → i < a + n → g i ≡ None) → put_from d line g a n ≡ []
put_none d line g a zero none = refl
put_none d line g a (suc n) none =
    ap (λ (o : Option Tile). placed_on (square_at d line a) o ++ put_from d line g (a + 1) n) (none a (omega arith) (omega arith))
    ∙ put_none d line g (a + 1) n (λ i low high. none i (omega arith) (omega arith))

put_split : (d : Dir) (line : ℕ) (g : ℕ → Option Tile) (a m n : ℕ) → put_from d line g a (m + n) ≡ put_from d line g a m ++ put_from d line g (a + m) n
put_split d line g a zero n = let e : 0 + n ≡ n = omega arith in let z : a ≡ a + 0 = omega arith in ap (put_from d line g a) e ∙ ap (λ b. put_from d line g b n) z
put_split d line g a (suc m) n =
    let e : suc m + n ≡ suc (m + n) = omega arith in
    let z : a + 1 + m ≡ a + suc m = omega arith in
    ap (put_from d line g a) e
    ∙ ap (λ qs. placed_on (square_at d line a) (g a) ++ qs) (put_split d line g (a + 1) m n)
    ∙ sym (append_assoc (placed_on (square_at d line a) (g a)) (put_from d line g (a + 1) m) (put_from d line g (a + 1 + m) n))
    ∙ ap (λ b. (placed_on (square_at d line a) (g a) ++ put_from d line g (a + 1) m) ++ put_from d line g b n) z

pub put_within : (d : Dir) (line : ℕ) (g : ℕ → Option Tile) (first len : ℕ) → first + len ≤ 15 → ((i : ℕ) → i < 15 → (i < first → g i ≡ None) × (first + len ≤ i → g i ≡ None))
    → put_from d line g 0 15 ≡ put_from d line g first len
put_within d line g first len inside none =
    let following : ℕ = 15 - (first + len) in
    let all : 15 ≡ first + (len + following) = omega arith in
    let zero_first : 0 + first ≡ first = omega arith in
    ap (put_from d line g 0) all
    ∙ put_split d line g 0 first (len + following)
    ∙ ap (λ qs. qs ++ put_from d line g (0 + first) (len + following)) (put_none d line g 0 first (λ i low high. (none i (omega arith)).0 (omega arith)))
    ∙ ap (λ b. put_from d line g b (len + following)) zero_first
    ∙ put_split d line g first len following
    ∙ ap (λ qs. put_from d line g first len ++ qs) (put_none d line g (first + len) following (λ i low high. (none i (omega arith)).1 (omega arith)))
    ∙ append-nil (put_from d line g first len)
