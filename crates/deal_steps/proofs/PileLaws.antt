-- Laws of lists of 27 numbers.
use Rattle.std.proofs.Common.{◌≡◌, ℕ, zero, suc, ◌+◌, ◌-◌, ◌<◌, ◌≤◌, max, List, [], ◌∷◌, length, get_or, set, sum, refl, sym, ap, ◌∙◌, inl, inr, arith}
use Rattle.std.specs.List.{range_with_len, sum_by}
use Rattle.std.proofs.lemmas.List.{length-set, get_or-set_same, get_or-set_other, get_or-replicate}
use Rattle.std.proofs.lemmas.Bool.{cases_eq}
use Rattle.std.proofs.lemmas.List.FromFn.{length-map-range_with_len, get_or-map-range_with_len}
use Rattle.std.proofs.lemmas.List.Sums.{sum_by-cons, sum-map}
use Rattle.std.proofs.lemmas.Grind.{same_number_lists}
use Rattle.ref_tiles.specs.Counting.{no_tiles}
use Rattle.deal_steps.specs.Piles.{kinds, table, joined, without, greater}

-- ---- tables

pub length-table : (f : ℕ → ℕ) → length (table f) ≡ 27
unfolding kinds
length-table f = length-map-range_with_len f 0 27

pub get-table : (f : ℕ → ℕ) (k : ℕ) → k < 27 → get_or (table f) k 0 ≡ f k
unfolding kinds
get-table f k below = get_or-map-range_with_len f 0 27 k k 0 below (omega arith)

-- lists with the same numbers are equal
pub same_numbers : (xs ys : List ℕ) → length xs ≡ 27 → length ys ≡ 27 → ((k : ℕ) → k < 27 → get_or xs k 0 ≡ get_or ys k 0) → xs ≡ ys
same_numbers xs ys long long2 same =
    same_number_lists xs ys (long ∙ sym long2) (λ k below. same k (rw (sym long) below))

pub table_is : (f : ℕ → ℕ) (xs : List ℕ) → length xs ≡ 27 → ((k : ℕ) → k < 27 → get_or xs k 0 ≡ f k) → xs ≡ table f
table_is f xs long each = same_numbers xs (table f) long (length-table f) (λ k below. each k below ∙ sym (get-table f k below))

pub joined_is : (xs a b : List ℕ) → length xs ≡ 27 → ((k : ℕ) → k < 27 → get_or xs k 0 ≡ get_or a k 0 + get_or b k 0) → xs ≡ joined a b
unfolding joined
joined_is xs a b long each = table_is _ xs long each

pub without_is : (xs a b : List ℕ) → length xs ≡ 27 → ((k : ℕ) → k < 27 → get_or xs k 0 ≡ get_or a k 0 - get_or b k 0) → xs ≡ without a b
unfolding without
without_is xs a b long each = table_is _ xs long each

pub greater_is : (xs a b : List ℕ) → length xs ≡ 27 → ((k : ℕ) → k < 27 → get_or xs k 0 ≡ max (get_or a k 0) (get_or b k 0)) → xs ≡ greater a b
unfolding greater
greater_is xs a b long each = table_is _ xs long each

-- one more number is written
pub fill_more : (f : ℕ → ℕ) (xs : List ℕ) (i v : ℕ) → i < length xs → ((k : ℕ) → k < i → get_or xs k 0 ≡ f k) → v ≡ f i → (k : ℕ) → k < i + 1 → get_or (set xs i v) k 0 ≡ f k
fill_more f xs i v inside before is k below =
    elim (cases_eq k i) [
      | inl same ↦ rw same (get_or-set_same xs i v 0 inside ∙ is)
      | inr other ↦ get_or-set_other xs i k v 0 other ∙ before k (omega (arith, other))
    ]

-- the numbers before a place are those of a function, and from there on they are as they were
abbrev pub IsFilled : (f : ℕ → ℕ) (old new : List ℕ) (i : ℕ) → Type 0
IsFilled f old new i =
    (length new ≡ 27) × ((k : ℕ) → k < i → get_or new k 0 ≡ f k) × ((k : ℕ) → i ≤ k → get_or new k 0 ≡ get_or old k 0)

pub filled_start : (f : ℕ → ℕ) (old : List ℕ) → length old ≡ 27 → IsFilled f old old 0
filled_start f old long = (long, (λ k below. absurd (omega arith)), λ k after. refl)

pub filled_more : (f : ℕ → ℕ) (old new : List ℕ) (i v : ℕ) → IsFilled f old new i → i < 27 → v ≡ f i → IsFilled f old (set new i v) (i + 1)
filled_more f old new i v (long, before, after) inside is =
    (length-set new i v ∙ long, fill_more f new i v (rw long inside) before is, λ k past. get_or-set_other new i k v 0 (λ same. absurd (omega (arith, same))) ∙ after k (omega arith))

pub filled_all : (f : ℕ → ℕ) (old new : List ℕ) → IsFilled f old new 27 → new ≡ table f
filled_all f old new (long, before, after) = table_is f new long before

-- ---- numbers and lengths

pub length-joined : (a b : List ℕ) → length (joined a b) ≡ 27
unfolding joined
length-joined a b = length-table _

pub length-without : (a b : List ℕ) → length (without a b) ≡ 27
unfolding without
length-without a b = length-table _

pub length-greater : (a b : List ℕ) → length (greater a b) ≡ 27
unfolding greater
length-greater a b = length-table _

pub get-joined : (a b : List ℕ) (k : ℕ) → k < 27 → get_or (joined a b) k 0 ≡ get_or a k 0 + get_or b k 0
unfolding joined
get-joined a b k below = get-table _ k below

pub get-without : (a b : List ℕ) (k : ℕ) → k < 27 → get_or (without a b) k 0 ≡ get_or a k 0 - get_or b k 0
unfolding without
get-without a b k below = get-table _ k below

pub get-greater : (a b : List ℕ) (k : ℕ) → k < 27 → get_or (greater a b) k 0 ≡ max (get_or a k 0) (get_or b k 0)
unfolding greater
get-greater a b k below = get-table _ k below

pub get-no_tiles : (k : ℕ) → k < 27 → get_or no_tiles k 0 ≡ 0
unfolding no_tiles
get-no_tiles k below = get_or-replicate 27 k 0 0 below

pub length-no_tiles : length no_tiles ≡ 27
unfolding no_tiles
length-no_tiles = refl

-- ---- sums

pub sum_of_sums : (f g : ℕ → ℕ) (xs : List ℕ) → sum_by (λ k. f k + g k) xs ≡ sum_by f xs + sum_by g xs
sum_of_sums f g [] = refl
sum_of_sums f g (x ∷ xs) =
    let whole = sum_by-cons (λ k. f k + g k) x xs in
    let first = sum_by-cons f x xs in
    let second = sum_by-cons g x xs in
    let more = sum_of_sums f g xs in
    omega (arith, whole, first, second, more)

pub sum-table : (f : ℕ → ℕ) → sum (table f) ≡ sum_by f kinds
sum-table f = sum-map f kinds

pub sum_is : (xs : List ℕ) → length xs ≡ 27 → sum xs ≡ sum_by (λ k. get_or xs k 0) kinds
sum_is xs long = ap sum (table_is (λ k. get_or xs k 0) xs long (λ k below. refl)) ∙ sum-table (λ k. get_or xs k 0)

-- ---- sums over the kinds

range_le : (f g : ℕ → ℕ) (a n : ℕ) → ((k : ℕ) → a ≤ k → k < a + n → f k ≤ g k) → sum_by f (range_with_len a n) ≤ sum_by g (range_with_len a n)
range_le f g a zero below = omega arith
range_le f g a (suc n) below =
    let first : sum_by f (range_with_len a (suc n)) ≡ f a + sum_by f (range_with_len (a + 1) n) = sum_by-cons f a (range_with_len (a + 1) n) in
    let second : sum_by g (range_with_len a (suc n)) ≡ g a + sum_by g (range_with_len (a + 1) n) = sum_by-cons g a (range_with_len (a + 1) n) in
    let more = range_le f g (a + 1) n (λ k after before. below k (omega arith) (omega arith)) in
    let here = below a (omega arith) (omega arith) in
    omega (arith, first, second, more, here)

range_same : (f g : ℕ → ℕ) (a n : ℕ) → ((k : ℕ) → a ≤ k → k < a + n → f k ≡ g k) → sum_by f (range_with_len a n) ≡ sum_by g (range_with_len a n)
range_same f g a n same =
    let fewer = range_le f g a n (λ k after before. let here = same k after before in omega (arith, here)) in
    let more = range_le g f a n (λ k after before. let here = same k after before in omega (arith, here)) in
    omega (arith, fewer, more)

range_part : (f : ℕ → ℕ) (a n k : ℕ) → a ≤ k → k < a + n → f k ≤ sum_by f (range_with_len a n)
range_part f a zero k after before = absurd (omega arith)
range_part f a (suc n) k after before =
    let whole : sum_by f (range_with_len a (suc n)) ≡ f a + sum_by f (range_with_len (a + 1) n) = sum_by-cons f a (range_with_len (a + 1) n) in
    elim (cases_eq k a) [
      | inl same ↦ rw same (omega (arith, whole))
      | inr other ↦ let more = range_part f (a + 1) n k (omega (arith, other)) (omega arith) in omega (arith, whole, more)
    ]

pub sum_kinds_same : (f g : ℕ → ℕ) → ((k : ℕ) → k < 27 → f k ≡ g k) → sum_by f kinds ≡ sum_by g kinds
unfolding kinds
sum_kinds_same f g same = range_same f g 0 27 (λ k after before. same k before)

pub sum_kinds_le : (f g : ℕ → ℕ) → ((k : ℕ) → k < 27 → f k ≤ g k) → sum_by f kinds ≤ sum_by g kinds
unfolding kinds
sum_kinds_le f g below = range_le f g 0 27 (λ k after before. below k before)

-- a part is at most the sum
pub part_of_kinds : (f : ℕ → ℕ) (k : ℕ) → k < 27 → f k ≤ sum_by f kinds
unfolding kinds
part_of_kinds f k below = range_part f 0 27 k (omega arith) below

-- if the sum is 0, so is each part
pub zero_kinds : (f : ℕ → ℕ) → sum_by f kinds ≡ 0 → (k : ℕ) → k < 27 → f k ≡ 0
zero_kinds f none k below = let part = part_of_kinds f k below in omega (arith, none, part)

pub sum-joined : (a b : List ℕ) → length a ≡ 27 → length b ≡ 27 → sum (joined a b) ≡ sum a + sum b
unfolding joined
sum-joined a b long long2 =
    let whole = sum-table (λ k. get_or a k 0 + get_or b k 0) in
    let parts = sum_of_sums (λ k. get_or a k 0) (λ k. get_or b k 0) kinds in
    let first = sum_is a long in
    let second = sum_is b long2 in
    omega (arith, whole, parts, first, second)

pub sum-without : (a b : List ℕ) → length a ≡ 27 → length b ≡ 27 → ((k : ℕ) → k < 27 → get_or b k 0 ≤ get_or a k 0) → sum (without a b) + sum b ≡ sum a
sum-without a b la lb le =
    let x = sum_is a la in
    let y = sum_is b lb in
    let z = sum_is (without a b) (length-without a b) in
    let both = sum_of_sums (λ k. get_or (without a b) k 0) (λ k. get_or b k 0) kinds in
    let same = sum_kinds_same (λ k. get_or (without a b) k 0 + get_or b k 0) (λ k. get_or a k 0)
    (λ k h. let w = get-without a b k h in let l = le k h in omega arith) in
    omega arith

pub sum-no_tiles : sum no_tiles ≡ 0
unfolding no_tiles
sum-no_tiles = refl
