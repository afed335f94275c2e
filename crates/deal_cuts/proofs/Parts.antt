-- Tiles of the chosen kinds and of others, by number.
use Rattle.std.proofs.Common.{◌≡◌, ℕ, zero, suc, add-one, ◌+◌, ◌<◌, ◌≤◌, Bool, true, false, not, List, [], ◌∷◌, length, get_or, sum, refl, sym, ap, ◌∙◌, arith}
use Rattle.std.specs.List.{range_with_len, sum_by}
use Rattle.std.proofs.lemmas.List.{get_or_past}
use Rattle.std.proofs.lemmas.List.Sums.{sum_by-cons}
use Rattle.ref_tiles.specs.Counting.{no_tiles}
use Rattle.ref_tiles.specs.declared.rulebook.Rules.{Rules}
use Rattle.deal_steps.specs.declared.steps.Step.{Step}
use Rattle.deal_steps.specs.declared.deals.Racks.{Racks}
use Rattle.deal_steps.specs.Piles.{kinds, without}
use Rattle.deal_steps.specs.Fitting.{in_bag, AddsUp}
use Rattle.deal_steps.proofs.PileLaws.{sum_of_sums, sum_is, sum_kinds_le, sum_kinds_same, get-without, get-no_tiles}
use Rattle.deal_cuts.specs.Cutting.{where_so, number_in, number_beside}
use Rattle.deal_cuts.proofs.Numbers.{where_so-zero, where_so-not, where_so-sums}

-- A way to count tiles that adds them up kind by kind.
pub record IsCounting (n : List ℕ → ℕ) : Type 0 where
  pub sums : (a b c d e f g h : List ℕ)
      → ((k : ℕ) → k < 27 → get_or a k 0 + get_or b k 0 + get_or c k 0 + get_or d k 0 ≤ get_or e k 0 + get_or f k 0 + get_or g k 0 + get_or h k 0)
      → n a + n b + n c + n d ≤ n e + n f + n g + n h
  pub none : n no_tiles ≡ 0

-- ---- the tiles of some kinds

number_where : (so : ℕ → Bool) → List ℕ → ℕ
number_where so tiles = sum_by (λ k. where_so (so k) (get_or tiles k 0)) kinds

four_sums : (f g h i : ℕ → ℕ) → sum_by (λ k. f k + g k + h k + i k) kinds ≡ sum_by f kinds + sum_by g kinds + sum_by h kinds + sum_by i kinds
four_sums f g h i =
    let last = sum_of_sums (λ k. f k + g k + h k) i kinds in
    let third = sum_of_sums (λ k. f k + g k) h kinds in
    let second = sum_of_sums f g kinds in
    omega (arith, last, third, second)

sums_where : (so : ℕ → Bool) (a b c d e f g h : List ℕ)
    → ((k : ℕ) → k < 27 → get_or a k 0 + get_or b k 0 + get_or c k 0 + get_or d k 0 ≤ get_or e k 0 + get_or f k 0 + get_or g k 0 + get_or h k 0)
    → number_where so a + number_where so b + number_where so c + number_where so d ≤ number_where so e + number_where so f + number_where so g + number_where so h
unfolding number_where
sums_where so a b c d e f g h below =
    let remaining = four_sums (λ k. where_so (so k) (get_or a k 0)) (λ k. where_so (so k) (get_or b k 0)) (λ k. where_so (so k) (get_or c k 0)) (λ k. where_so (so k) (get_or d k 0)) in
    let right = four_sums (λ k. where_so (so k) (get_or e k 0)) (λ k. where_so (so k) (get_or f k 0)) (λ k. where_so (so k) (get_or g k 0)) (λ k. where_so (so k) (get_or h k 0)) in
    let less = sum_kinds_le
    (λ k. where_so (so k) (get_or a k 0) + where_so (so k) (get_or b k 0) + where_so (so k) (get_or c k 0) + where_so (so k) (get_or d k 0))
    (λ k. where_so (so k) (get_or e k 0) + where_so (so k) (get_or f k 0) + where_so (so k) (get_or g k 0) + where_so (so k) (get_or h k 0))
    (λ k small. where_so-sums (so k) _ _ _ _ _ _ _ _ (below k small)) in
    omega (arith, remaining, right, less)

zeros : (xs : List ℕ) → sum_by (λ k. 0) xs ≡ 0
zeros [] = refl
zeros (x ∷ xs) = let whole = sum_by-cons (λ k. 0) x xs in let rest = zeros xs in omega (arith, whole, rest)

none_where : (so : ℕ → Bool) → number_where so no_tiles ≡ 0
unfolding number_where
none_where so =
    sum_kinds_same (λ k. where_so (so k) (get_or no_tiles k 0)) (λ k. 0) (λ k small. ap (where_so (so k)) (get-no_tiles k small) ∙ where_so-zero (so k)) ∙ zeros kinds

pub counting_in : (chosen : List Bool) → IsCounting (number_in chosen)
unfolding number_in number_where
counting_in chosen = record { sums = sums_where (λ k. get_or chosen k false); none = none_where (λ k. get_or chosen k false) }

pub counting_beside : (chosen : List Bool) → IsCounting (number_beside chosen)
unfolding number_beside number_where
counting_beside chosen = record { sums = sums_where (λ k. not (get_or chosen k false)); none = none_where (λ k. not (get_or chosen k false)) }

-- ---- both together

both_are : (chosen : List Bool) (tiles : List ℕ) → number_in chosen tiles + number_beside chosen tiles ≡ sum_by (λ k. get_or tiles k 0) kinds
unfolding number_in number_beside
both_are chosen tiles =
    sym (sum_of_sums (λ k. where_so (get_or chosen k false) (get_or tiles k 0)) (λ k. where_so (not (get_or chosen k false)) (get_or tiles k 0)) kinds)
    ∙ sum_kinds_same
    (λ k. where_so (get_or chosen k false) (get_or tiles k 0) + where_so (not (get_or chosen k false)) (get_or tiles k 0))
    (λ k. get_or tiles k 0)
    (λ k small. where_so-not (get_or chosen k false) (get_or tiles k 0))

pub whole : (chosen : List Bool) (tiles : List ℕ) → length tiles ≡ 27 → number_in chosen tiles + number_beside chosen tiles ≡ sum tiles
whole chosen tiles long = both_are chosen tiles ∙ sym (sum_is tiles long)

-- a list whose numbers past a place are all 0
none_past : (xs : List ℕ) → ((j : ℕ) → get_or xs j 0 ≡ 0) → sum xs ≡ 0
none_past [] none = refl
none_past (x ∷ xs) none = let rest = none_past xs (λ j. none (suc j)) in
    let here : x ≡ 0 = none 0 in
    let all : sum (x ∷ xs) ≡ x + sum xs = sum_by-cons (λ n. n) x xs in
    omega (arith, all, rest, here)

sum_to : (xs : List ℕ) (f : ℕ → ℕ) (a n : ℕ) → ((j : ℕ) → f (a + j) ≡ get_or xs j 0) → ((j : ℕ) → n ≤ j → get_or xs j 0 ≡ 0)
    → sum_by f (range_with_len a n) ≡ sum xs
sum_to xs f a zero is none = sym (none_past xs (λ j. none j (omega arith)))
sum_to [] f a (suc n) is none =
    let first : sum_by f (range_with_len a (suc n)) ≡ f a + sum_by f (range_with_len (a + 1) n) = sum_by-cons f a (range_with_len (a + 1) n) in
    let rest = sum_to [] f (a + 1) n (λ j. ap f (omega arith) ∙ is (suc j)) (λ j past. refl) in
    let here : f a ≡ 0 = ap f (omega arith) ∙ is 0 in
    omega (arith, first, rest, here)
sum_to (x ∷ xs) f a (suc n) is none =
    let first : sum_by f (range_with_len a (suc n)) ≡ f a + sum_by f (range_with_len (a + 1) n) = sum_by-cons f a (range_with_len (a + 1) n) in
    let rest = sum_to xs f (a + 1) n (λ j. ap f (omega arith) ∙ is (suc j)) (λ j past. none (suc j) (omega arith)) in
    let here : f a ≡ x = ap f (omega arith) ∙ is 0 in
    let all : sum (x ∷ xs) ≡ x + sum xs = sum_by-cons (λ n. n) x xs in
    omega (arith, first, rest, here, all)

-- the tiles that are among others
pub whole_within : (chosen : List Bool) (tiles others : List ℕ) → length others ≡ 27 → ((k : ℕ) → get_or tiles k 0 ≤ get_or others k 0)
    → number_in chosen tiles + number_beside chosen tiles ≡ sum tiles
unfolding kinds
whole_within chosen tiles others long within =
    both_are chosen tiles
    ∙ sum_to tiles (λ k. get_or tiles k 0) 0 27 (λ j. ap (λ (k : ℕ). get_or tiles k 0) (omega arith))
    (λ j past. let most = within j in let out = get_or_past others j 0 (rw long past) in omega (arith, most, out))

-- ---- the bag

pub bag_is : (n : List ℕ → ℕ) → IsCounting n → (rules : Rules) (s : Step) (racks : Racks) → AddsUp rules s racks
    → n s.board + n racks.first + n racks.second + n (in_bag rules s racks) ≡ n rules.counts
bag_is n counting rules s racks adds =
    let each : (k : ℕ) → k < 27 → get_or s.board k 0 + get_or racks.first k 0 + get_or racks.second k 0 + get_or (in_bag rules s racks) k 0 ≡ get_or rules.counts k 0 =
    λ k small.
    let one = get-without rules.counts s.board k small in
    let two = get-without (without rules.counts s.board) racks.first k small in
    let three = get-without (without (without rules.counts s.board) racks.first) racks.second k small in
    let there = adds.within k small in
    omega (arith, one, two, three, there)
    in
    let up = counting.sums s.board racks.first racks.second (in_bag rules s racks) rules.counts no_tiles no_tiles no_tiles
    (λ k small. let here = each k small in omega (arith, here)) in
    let down = counting.sums rules.counts no_tiles no_tiles no_tiles s.board racks.first racks.second (in_bag rules s racks)
    (λ k small. let here = each k small in let zero_there = get-no_tiles k small in omega (arith, here, zero_there)) in
    let none = counting.none in
    omega (arith, up, down, none)

pub bag_size : (chosen : List Bool) (rules : Rules) (s : Step) (racks : Racks) → length rules.counts ≡ 27 → length s.board ≡ 27 → AddsUp rules s racks
    → number_in chosen (in_bag rules s racks) + number_beside chosen (in_bag rules s racks) ≡ s.bag
bag_size chosen rules s racks long long2 adds =
    let one = bag_is (number_in chosen) (counting_in chosen) rules s racks adds in
    let two = bag_is (number_beside chosen) (counting_beside chosen) rules s racks adds in
    let all = whole chosen rules.counts long in
    let laid = whole chosen s.board long2 in
    let first = whole chosen racks.first adds.first_kinds in
    let second = whole chosen racks.second adds.second_kinds in
    let sizes = adds.bag in
    omega (arith, one, two, all, laid, first, second, sizes)

-- ---- the first kinds

pub in_first : (chosen : List Bool) (tiles : List ℕ) → ℕ → ℕ
in_first chosen tiles i = sum_by (λ k. where_so (get_or chosen k false) (get_or tiles k 0)) (range_with_len 0 i)

pub beside_first : (chosen : List Bool) (tiles : List ℕ) → ℕ → ℕ
beside_first chosen tiles i = sum_by (λ k. where_so (not (get_or chosen k false)) (get_or tiles k 0)) (range_with_len 0 i)

range_more : (f : ℕ → ℕ) (a n : ℕ) → sum_by f (range_with_len a (suc n)) ≡ sum_by f (range_with_len a n) + f (a + n)
range_more f a zero =
    let whole : sum_by f (range_with_len a 1) ≡ f a + sum_by f (range_with_len (a + 1) 0) = sum_by-cons f a (range_with_len (a + 1) 0) in
    let here : f (a + 0) ≡ f a = ap f (omega arith) in
    omega (arith, whole, here)
range_more f a (suc n) =
    let whole : sum_by f (range_with_len a (suc (suc n))) ≡ f a + sum_by f (range_with_len (a + 1) (suc n)) = sum_by-cons f a (range_with_len (a + 1) (suc n)) in
    let less : sum_by f (range_with_len a (suc n)) ≡ f a + sum_by f (range_with_len (a + 1) n) = sum_by-cons f a (range_with_len (a + 1) n) in
    let more = range_more f (a + 1) n in
    let here : f (a + 1 + n) ≡ f (a + suc n) = ap f (omega arith) in
    omega (arith, whole, less, more, here)

pub none_first : (chosen : List Bool) (tiles : List ℕ) → in_first chosen tiles 0 ≡ 0
unfolding in_first
none_first chosen tiles = refl

pub none_beside : (chosen : List Bool) (tiles : List ℕ) → beside_first chosen tiles 0 ≡ 0
unfolding beside_first
none_beside chosen tiles = refl

more_in : (chosen : List Bool) (tiles : List ℕ) (i : ℕ) → in_first chosen tiles (i + 1) ≡ in_first chosen tiles i + where_so (get_or chosen i false) (get_or tiles i 0)
unfolding in_first
more_in chosen tiles i =
    let f : ℕ → ℕ = λ k. where_so (get_or chosen k false) (get_or tiles k 0) in
    let more = range_more f 0 i in
    let here : f (0 + i) ≡ f i = ap f (omega arith) in
    rw (add-one i) (omega (arith, more, here))

more_beside : (chosen : List Bool) (tiles : List ℕ) (i : ℕ) → beside_first chosen tiles (i + 1) ≡ beside_first chosen tiles i + where_so (not (get_or chosen i false)) (get_or tiles i 0)
unfolding beside_first
more_beside chosen tiles i =
    let f : ℕ → ℕ = λ k. where_so (not (get_or chosen k false)) (get_or tiles k 0) in
    let more = range_more f 0 i in
    let here : f (0 + i) ≡ f i = ap f (omega arith) in
    rw (add-one i) (omega (arith, more, here))

-- one more kind, which is chosen or not
pub chosen_in : (chosen : List Bool) (tiles : List ℕ) (i : ℕ) → get_or chosen i false ≡ true → in_first chosen tiles (i + 1) ≡ in_first chosen tiles i + get_or tiles i 0
unfolding where_so
chosen_in chosen tiles i is = more_in chosen tiles i ∙ rw is refl

pub chosen_beside : (chosen : List Bool) (tiles : List ℕ) (i : ℕ) → get_or chosen i false ≡ true → beside_first chosen tiles (i + 1) ≡ beside_first chosen tiles i
unfolding where_so
chosen_beside chosen tiles i is = more_beside chosen tiles i ∙ rw is (omega arith)

pub other_in : (chosen : List Bool) (tiles : List ℕ) (i : ℕ) → get_or chosen i false ≡ false → in_first chosen tiles (i + 1) ≡ in_first chosen tiles i
unfolding where_so
other_in chosen tiles i is = more_in chosen tiles i ∙ rw is (omega arith)

pub other_beside : (chosen : List Bool) (tiles : List ℕ) (i : ℕ) → get_or chosen i false ≡ false → beside_first chosen tiles (i + 1) ≡ beside_first chosen tiles i + get_or tiles i 0
unfolding where_so
other_beside chosen tiles i is = more_beside chosen tiles i ∙ rw is refl

pub all_in : (chosen : List Bool) (tiles : List ℕ) → in_first chosen tiles 27 ≡ number_in chosen tiles
unfolding in_first number_in kinds
all_in chosen tiles = refl

pub all_beside : (chosen : List Bool) (tiles : List ℕ) → beside_first chosen tiles 27 ≡ number_beside chosen tiles
unfolding beside_first number_beside kinds
all_beside chosen tiles = refl
