-- The bound of the longest stretch from a place bounds the plays of each shorter one.
use Rattle.std.proofs.Common.{◌≡◌, ℕ, zero, suc, ◌+◌, ◌-◌, ◌*◌, ◌^◌, ◌<◌, ◌≤◌, Bool, true, false, nat_le, sym, ap, ◌∙◌, arith, ⊎_elim, if◌then◌else◌}
use Rattle.std.proofs.lemmas.Bool.{cases_eq, cases_Bool, cases_lt, le-leb, leb-true, true≢false}
use Rattle.std.proofs.Math.Nat.{mul-le-mul, pow-le-pow_right}
use Rattle.ref_play.proofs.ScoreLemmas.{factor_limit}
use Rattle.gen_moves.proofs.Sums.{total-first, least-first, least-second, least-both}
use Rattle.gen_moves.specs.declared.places.Place.{Place}
use Rattle.gen_moves.specs.declared.stretches.Sum.{Sum}
use Rattle.gen_moves.specs.Closing.{IsPassable}
use Rattle.gen_moves.specs.Bounds.{total, times, one_if, free_count, IsBoundFrom, IsSum, IsSmall, IsSmallSum, least}

total-up : (f : ℕ → ℕ) (a m n : ℕ) → m ≤ n → total f a m ≤ total f a n
unfolding total
total-up f a m zero le = let e : m ≡ 0 = omega arith in rw e (omega arith)
total-up f a m (suc n) le =
    ⊎_elim
    (λ (same : m ≡ suc n). rw same (omega arith))
    (λ (ne : m ≡ suc n → ⊥). let fewer = total-up f a m n (omega arith) in omega arith)
    (cases_eq m (suc n))

times-up : (f : ℕ → ℕ) (a m n : ℕ) → m ≤ n → ((i : ℕ) → a ≤ i → i < a + n → 1 ≤ f i) → times f a m ≤ times f a n
unfolding times
times-up f a m zero le some = let e : m ≡ 0 = omega arith in rw e (omega arith)
times-up f a m (suc n) le some =
    ⊎_elim
    (λ (same : m ≡ suc n). rw same (omega arith))
    (λ (ne : m ≡ suc n → ⊥).
    let fewer = times-up f a m n (omega arith) (λ i low high. some i low (omega arith)) in
    let last = some (a + n) (omega arith) (omega arith) in
    let both : times f a n * 1 ≤ times f a n * f (a + n) = mul-le-mul (omega arith) last in
    omega arith)
    (cases_eq m (suc n))

-- one more place
pub sum_more : (places : ℕ → Place) (first n at : ℕ) (s more : Sum) → at ≡ first + n → IsSum places first n s
    → more.old ≡ s.old + (places at).old → more.word ≡ s.word * (places at).word → more.side ≡ s.side + (places at).side → more.free ≡ s.free + one_if (places at).free
    → more.letters ≡ s.letters + ((places at).letter - 1) → more.crosses ≡ s.crosses + (places at).cross
    → s.letter ≤ more.letter → (places at).letter ≤ more.letter → s.cross ≤ more.cross → (places at).cross ≤ more.cross → IsSum places first (suc n) more
unfolding total times
sum_more places first n at s more is sum old word side free letters crosses letter_before letter cross_before cross =
    record {
      old = old ∙ ap (λ m. m + (places at).old) sum.old ∙ ap (λ k. total (λ i. (places i).old) first n + (places k).old) is;
      word = word ∙ ap (λ m. m * (places at).word) sum.word ∙ ap (λ k. times (λ i. (places i).word) first n * (places k).word) is;
      side = side ∙ ap (λ m. m + (places at).side) sum.side ∙ ap (λ k. total (λ i. (places i).side) first n + (places k).side) is;
      free = free ∙ ap (λ m. m + one_if (places at).free) sum.free ∙ ap (λ k. free_count places first n + one_if (places k).free) is;
      letters = letters ∙ ap (λ m. m + ((places at).letter - 1)) sum.letters ∙ ap (λ k. total (λ i. (places i).letter - 1) first n + ((places k).letter - 1)) is;
      crosses = crosses ∙ ap (λ m. m + (places at).cross) sum.crosses ∙ ap (λ k. total (λ i. (places i).cross) first n + (places k).cross) is;
      letter = λ i low high open'.
          ⊎_elim
          (λ (here : i ≡ at). let e = ap (λ k. (places k).letter) here in omega arith)
          (λ (ne : i ≡ at → ⊥). let before = sum.letter i low (omega arith) open' in omega arith)
          (cases_eq i at);
      cross = λ i low high open'.
          ⊎_elim
          (λ (here : i ≡ at). let e = ap (λ k. (places k).cross) here in omega arith)
          (λ (ne : i ≡ at → ⊥). let before = sum.cross i low (omega arith) open' in omega arith)
          (cases_eq i at);
    }

-- the bound of a sum bounds each shorter stretch
pub sum_bound : (bonus points ones : ℕ) (places : ℕ → Place) (opens : ℕ → Bool) (first n : ℕ) (s : Sum) (bound : ℕ) → first + n ≤ 15 → IsSum places first n s → ((i : ℕ) → i < 15 → IsSmall (places i))
    → bound ≡ (s.old + (least s.letters ((s.letter - 1) * ones) + least ones s.free) + s.letter * points) * s.word + (s.side + least s.crosses (s.cross * ones) + s.cross * points) + (if nat_le 7 s.free then bonus else 0)
    → ((len : ℕ) → first + len ≤ 15 → free_count places first len ≤ 7 → IsPassable opens first len → len ≤ n) → IsBoundFrom bonus points ones places opens first bound
sum_bound bonus points ones places opens first n s bound inside sum small is reach len in' few passable =
    let le = reach len in' few passable in
    let old = total-up (λ i. (places i).old) first len n le in
    let side = total-up (λ i. (places i).side) first len n le in
    let free = total-up (λ i. one_if (places i).free) first len n le in
    let letters = total-up (λ i. (places i).letter - 1) first len n le in
    let crosses = total-up (λ i. (places i).cross) first len n le in
    let letters_is = sum.letters in
    let crosses_is = sum.crosses in
    let word = times-up (λ i. (places i).word) first len n le (λ i low high. (small i (omega arith)).some) in
    let old_is = sum.old in
    let side_is = sum.side in
    let free_is = sum.free in
    let word_is = sum.word in
    let few_up = least-both ones s.free (least ones (free_count places first len)) (least-first ones (free_count places first len)) (let le = least-second ones (free_count places first len) in omega arith) in
    let more_up =
    least-both s.letters ((s.letter - 1) * ones) (least (total (λ i. (places i).letter - 1) first len) ((s.letter - 1) * ones))
    (let le = least-first (total (λ i. (places i).letter - 1) first len) ((s.letter - 1) * ones) in omega arith)
    (least-second (total (λ i. (places i).letter - 1) first len) ((s.letter - 1) * ones)) in
    let cross_up =
    least-both s.crosses (s.cross * ones) (least (total (λ i. (places i).cross) first len) (s.cross * ones))
    (let le = least-first (total (λ i. (places i).cross) first len) (s.cross * ones) in omega arith)
    (least-second (total (λ i. (places i).cross) first len) (s.cross * ones)) in
    let main : (total (λ i. (places i).old) first len + (least (total (λ i. (places i).letter - 1) first len) ((s.letter - 1) * ones) + least ones (free_count places first len)) + s.letter * points) * times (λ i. (places i).word) first len
    ≤ (s.old + (least s.letters ((s.letter - 1) * ones) + least ones s.free) + s.letter * points) * s.word = mul-le-mul (omega arith) (omega arith) in
    let top = bonus_up (free_count places first len) s.free (omega arith) in
    record {
      letter = s.letter;
      cross = s.cross;
      letters = λ i low high open'. sum.letter i low (omega arith) open';
      crosses = λ i low high open'. sum.cross i low (omega arith) open';
      within = omega arith;
    }
  where
    bonus_up : (a b : ℕ) → a ≤ b → (if nat_le 7 a then bonus else 0) ≤ (if nat_le 7 b then bonus else 0)
    bonus_up a b le =
        ⊎_elim
        (λ (many : nat_le 7 a ≡ true). let seven = leb-true 7 a many in let also = le-leb 7 b (omega arith) in rw (many, also) (omega arith))
        (λ (few : nat_le 7 a ≡ false). rw few (omega arith))
        (cases_Bool (nat_le 7 a))

-- the number of free places of a stretch, from its end on
pub count_one : (places : ℕ → Place) (at : ℕ) → free_count places at 1 ≡ one_if (places at).free
unfolding total
count_one places at = let e : at + 0 ≡ at = omega arith in let here = ap (λ k. one_if (places k).free) e in omega arith

pub count_more : (places : ℕ → Place) (at next n : ℕ) → next ≡ at + 1 → free_count places at (n + 1) ≡ free_count places next n + one_if (places at).free
count_more places at next n is =
    let more : n + 1 ≡ suc n = omega arith in
    let whole = ap (free_count places at) more in
    let split = total-first (λ i. one_if (places i).free) at n in
    let rest = ap (λ a. free_count places a n) is in
    omega arith

pub one_or_none : (b : Bool) → one_if b ≤ 1
one_or_none true = omega arith
one_or_none false = omega arith

-- a part of a stretch has no more than the stretch
pub total-inside : (f : ℕ → ℕ) (first k n len : ℕ) → k + n ≤ len → total f (first + k) n ≤ total f first len
total-inside f first zero n len le = let e : first + 0 ≡ first = omega arith in let up = total-up f first n len (omega arith) in rw e up
total-inside f first (suc k) n len le =
    let e : first + suc k ≡ first + 1 + k = omega arith in
    let one_less : suc (len - 1) ≡ len = omega arith in
    let inner = total-inside f (first + 1) k n (len - 1) (omega arith) in
    let split = total-first f first (len - 1) in
    let whole = ap (total f first) one_less in
    let here = ap (λ a. total f a n) e in
    omega arith

-- a stretch that has one more free place than allowed has too many
pub no_reach : (places : ℕ → Place) (first at h len : ℕ) → first ≤ at → at ≤ h → h < first + len → 7 < free_count places at (h - at + 1) → free_count places first len ≤ 7 → ⊥
no_reach places first at h len low high inside many few =
    let e : first + (at - first) ≡ at = omega arith in
    let part = total-inside (λ i. one_if (places i).free) first (at - first) (h - at + 1) len (omega arith) in
    let here = ap (λ a. free_count places a (h - at + 1)) e in
    omega arith

-- the next place would be an eighth free one
pub reach_stop : (places : ℕ → Place) (first n at : ℕ) (s : Sum) → at ≡ first + n → IsSum places first n s → s.free ≡ 7 → (places at).free ≡ true → (len : ℕ) → first + len ≤ 15 → free_count places first len ≤ 7 → len ≤ n
unfolding total
reach_stop places first n at s is sum seven free len inside few =
    ⊎_elim
    (λ (more : n < len).
    let up = total-up (λ i. one_if (places i).free) first (suc n) len (omega arith) in
    let last : one_if (places (first + n)).free ≡ 1 = ap (λ k. one_if (places k).free) (sym is) ∙ ap one_if free in
    let free_is = sum.free in
    absurd (omega arith))
    (λ (le : len ≤ n). le)
    (cases_lt n len)

-- no tile can be laid on the next place
pub reach_closed : (opens : ℕ → Bool) (first n at : ℕ) → at ≡ first + n → opens at ≡ false → (len : ℕ) → IsPassable opens first len → len ≤ n
reach_closed opens first n at is closed len passable =
    ⊎_elim
    (λ (more : n < len). absurd (true≢false (sym (passable at (omega arith) (omega arith)) ∙ closed)))
    (λ (le : len ≤ n). le)
    (cases_lt n len)

-- ---- small numbers
pub sum_up : (n m : ℕ) (s : Sum) → n ≤ m → IsSmallSum n s → IsSmallSum m s
sum_up n m s le small =
    let most : 3 ^ n ≤ 3 ^ m = pow-le-pow_right {n = 3} (omega arith) {i = n} {j = m} le in
    record { old = omega arith; word = omega arith; side = omega arith; free = omega arith; letters = omega arith; crosses = omega arith; letter = small.letter; cross = small.cross }

pub small_more : (n : ℕ) (s more : Sum) (p : Place) → IsSmallSum n s → IsSmall p → more.old ≡ s.old + p.old → more.word ≡ s.word * p.word → more.side ≡ s.side + p.side
    → more.free ≡ s.free + one_if p.free → more.letters ≡ s.letters + (p.letter - 1) → more.crosses ≡ s.crosses + p.cross → more.letter ≤ 3 → more.cross ≤ 9 → IsSmallSum (n + 1) more
small_more n s more p small one old word side free letters crosses letter cross =
    let word_le = factor_limit n s.word p.word small.word one.word in
    let a = small.old in
    let b = one.old in
    let c = small.side in
    let d = one.side in
    let e = small.free in
    let f = one_or_none p.free in
    let h = small.letters in
    let i = one.letter in
    let j = small.crosses in
    let k = one.cross in
    record { old = omega arith; word = omega arith; side = omega arith; free = omega arith; letters = omega arith; crosses = omega arith; letter = letter; cross = cross }

-- ---- a greater number bounds as well
pub bound_up : (bonus points ones : ℕ) (places : ℕ → Place) (opens : ℕ → Bool) (first low high : ℕ) → low ≤ high → IsBoundFrom bonus points ones places opens first low
    → IsBoundFrom bonus points ones places opens first high
bound_up bonus points ones places opens first low high le h len inside few passable =
    let w = h len inside few passable in
    let within = w.within in
    record { letter = w.letter; cross = w.cross; letters = w.letters; crosses = w.crosses; within = omega arith }
