-- What a pick takes: the tiles of a list first, and then others that are not reserved.
use Rattle.std.proofs.Common.{◌≡◌, ◌<◌, ◌≤◌, ℕ, ◌+◌, ◌-◌, ◌==◌, ◌&&◌, min, Bool, true, false, cond, ltb, List, [], ◌∷◌, ◌++◌, take, drop, length, get_or, set, sum, Option, Some, None, refl, sym, ap, ◌∙◌, subst, inl, inr, ◌⊎◌, arith, zero, suc}
use Rattle.std.specs.Prelude.{if◌then◌else◌}
use Rattle.std.specs.List.{range_with_len, sum_by, find}
use Rattle.std.specs.Option.{option_or}
use Rattle.std.proofs.lemmas.Bool.{cases_lt, cases_eq, cases_Bool, eq-eqb, ne_eqb, ltb-true, ltb-false, lt-ltb, le-ltb, and_parts}
use Rattle.std.proofs.lemmas.List.{length-set, get_or-set_same, get_or-set_other, get_or_past, take_all, take-append-le, take-append-drop, length-drop}
use Rattle.std.proofs.lemmas.List.Sums.{sum_by-cons, sum_by-set, sum_by-take-le}
use Rattle.ref_tiles.specs.Counting.{no_tiles}
use Rattle.deal_steps.specs.Piles.{kinds}
use Rattle.deal_steps.proofs.PileLaws.{get-no_tiles, length-no_tiles, sum-no_tiles, sum_of_sums, sum_is, sum_kinds_same, sum_kinds_le}
use Rattle.deal_completion.specs.declared.picking.Pick.{Pick}
use Rattle.deal_completion.specs.Completion.{with_one, pick_listed, next_kind, with_next, pick_more, pick}
use Rattle.deal_completion.proofs.Demand.{often, often-append, often-cons, sum_of_none}

-- numbers of kinds
abbrev pub AreKinds : List ℕ → Type 0
AreKinds [] = Unit {0}
AreKinds (k ∷ list) = (k < 27) × AreKinds list

-- what is picked and what is left of some tiles
pub record IsOf (tiles : List ℕ) (p : Pick) : Type 0 where
  pub long : length p.taken ≡ 27
  pub remaining_long : length p.remaining ≡ 27
  pub whole : (k : ℕ) → k < 27 → get_or p.taken k 0 + get_or p.remaining k 0 ≡ get_or tiles k 0

-- ---- one tile

abbrev pub tick : ℕ → ℕ → ℕ
tick j k = cond {A = ℕ} (j == k) 1 0

tick_same : (j k : ℕ) → j ≡ k → tick j k ≡ 1
tick_same j k e = ap (λ (b : Bool). cond {A = ℕ} b 1 0) (eq-eqb j k e)

tick_other : (j k : ℕ) → (j ≡ k → ⊥) → tick j k ≡ 0
tick_other j k ne = ap (λ (b : Bool). cond {A = ℕ} b 1 0) (ne_eqb j k ne)

one_set : (xs : List ℕ) (j k : ℕ) → j < length xs → get_or (set xs j (get_or xs j 0 + 1)) k 0 ≡ get_or xs k 0 + tick j k
one_set xs j k h = elim (cases_eq j k) [
  | inl e ↦ subst (λ (i : ℕ). get_or (set xs j (get_or xs j 0 + 1)) i 0 ≡ get_or xs i 0 + tick j i) e
      (get_or-set_same xs j (get_or xs j 0 + 1) 0 h ∙ ap (λ (n : ℕ). get_or xs j 0 + n) (sym (tick_same j j refl)))
  | inr ne ↦
      let t = tick_other j k ne in
      let o = get_or-set_other xs j k (get_or xs j 0 + 1) 0 (λ (e : k ≡ j). ne (sym e)) in
      omega arith
]

one_unset : (xs : List ℕ) (j k : ℕ) → j < length xs → get_or (set xs j (get_or xs j 0 - 1)) k 0 ≡ get_or xs k 0 - tick j k
one_unset xs j k h = elim (cases_eq j k) [
  | inl e ↦ subst (λ (i : ℕ). get_or (set xs j (get_or xs j 0 - 1)) i 0 ≡ get_or xs i 0 - tick j i) e
      (get_or-set_same xs j (get_or xs j 0 - 1) 0 h ∙ ap (λ (n : ℕ). get_or xs j 0 - n) (sym (tick_same j j refl)))
  | inr ne ↦
      let t = tick_other j k ne in
      let o = get_or-set_other xs j k (get_or xs j 0 - 1) 0 (λ (e : k ≡ j). ne (sym e)) in
      omega arith
]

pub with_one_taken : (p : Pick) (j k : ℕ) → j < length p.taken → get_or (with_one p j).taken k 0 ≡ get_or p.taken k 0 + tick j k
unfolding with_one
with_one_taken p j k h = one_set p.taken j k h

pub with_one_remaining : (p : Pick) (j k : ℕ) → j < length p.remaining → get_or (with_one p j).remaining k 0 ≡ get_or p.remaining k 0 - tick j k
unfolding with_one
with_one_remaining p j k h = one_unset p.remaining j k h

pub with_one_sum : (p : Pick) (j : ℕ) → j < length p.taken → sum (with_one p j).taken ≡ sum p.taken + 1
unfolding with_one
with_one_sum p j h =
    let e = sum_by-set (λ (n : ℕ). n) p.taken j (get_or p.taken j 0 + 1) 0 h in omega arith

with_one_long : (p : Pick) (j : ℕ) → length (with_one p j).taken ≡ length p.taken
unfolding with_one
with_one_long p j = length-set p.taken j (get_or p.taken j 0 + 1)

with_one_remaining_long : (p : Pick) (j : ℕ) → length (with_one p j).remaining ≡ length p.remaining
unfolding with_one
with_one_remaining_long p j = length-set p.remaining j (get_or p.remaining j 0 - 1)

tick_there : (xs : List ℕ) (j k : ℕ) → 0 < get_or xs j 0 → tick j k ≤ get_or xs k 0
tick_there xs j k there = elim (cases_eq j k) [
  | inl e ↦ subst (λ (i : ℕ). tick j i ≤ get_or xs i 0) e (let t = tick_same j j refl in omega arith)
  | inr ne ↦ let t = tick_other j k ne in omega arith
]

pub with_one_of : (tiles : List ℕ) (p : Pick) (j : ℕ) → IsOf tiles p → j < 27 → 0 < get_or p.remaining j 0 → IsOf tiles (with_one p j)
with_one_of tiles p j is h there =
    let long = is.long in
    let remaining_long = is.remaining_long in
    record {
      long = with_one_long p j ∙ long;
      remaining_long = with_one_remaining_long p j ∙ remaining_long;
      whole = λ k hk.
          let a = with_one_taken p j k (omega arith) in
          let b = with_one_remaining p j k (omega arith) in
          let t = tick_there p.remaining j k there in
          let w = is.whole k hk in
          omega arith;
    }

-- ---- the tiles of a list

-- the first tile of a list
first_listed : (list : List ℕ) (j number : ℕ) (p : Pick) → sum p.taken < number → 0 < get_or p.remaining j 0
    → pick_listed (j ∷ list) number p ≡ pick_listed list number (with_one p j)
first_listed list j number p few there =
    ap (λ (b : Bool). pick_listed list number (if b && ltb 0 (get_or p.remaining j 0) then with_one p j else p)) (lt-ltb (sum p.taken) number few)
    ∙ ap (λ (b : Bool). pick_listed list number (if b then with_one p j else p)) (lt-ltb 0 (get_or p.remaining j 0) there)

full_listed : (list : List ℕ) (j number : ℕ) (p : Pick) → number ≤ sum p.taken → pick_listed (j ∷ list) number p ≡ pick_listed list number p
full_listed list j number p full =
    ap (λ (b : Bool). pick_listed list number (if b && ltb 0 (get_or p.remaining j 0) then with_one p j else p)) (le-ltb (sum p.taken) number full)

-- If all of a list is there, its first tiles are taken, as many as are requested.
pub record Takes (list tiles : List ℕ) (number : ℕ) (p q : Pick) : Type 0 where
  pub is_of : IsOf tiles q
  pub took : (k : ℕ) → k < 27 → get_or q.taken k 0 ≡ get_or p.taken k 0 + often k (take (number - sum p.taken) list)
  pub count : sum q.taken ≡ sum p.taken + min (number - sum p.taken) (length list)

take_first : (j n m : ℕ) (list : List ℕ) → n ≡ m + 1 → take n (j ∷ list) ≡ j ∷ take m list
take_first j n m list e =
    let s : n ≡ suc m = omega arith in ap (λ (i : ℕ). take i (j ∷ list)) s

take_none : (n : ℕ) (list : List ℕ) → n ≡ 0 → take n list ≡ []
take_none n list e = ap (λ (i : ℕ). take i list) e

pub picks_listed : (list tiles : List ℕ) (number : ℕ) (p : Pick) → AreKinds list → IsOf tiles p → ((k : ℕ) → k < 27 → often k list ≤ get_or p.remaining k 0)
    → Takes list tiles number p (pick_listed list number p)
picks_listed [] tiles number p are is there = record {
  is_of = is;
  took = λ k h. (let e : take (number - sum p.taken) [] ≡ [] = none (number - sum p.taken) in sym (ap (λ (l : List ℕ). get_or p.taken k 0 + often k l) e ∙ omega arith));
  count = omega arith;
}
  where
    none : (n : ℕ) → take {A = ℕ} n [] ≡ []
    none zero = refl
    none (suc n) = refl
picks_listed (j ∷ list) tiles number p are is there = elim (cases_lt (sum p.taken) number) [
  | inl few ↦
      let long = is.long in
      let remaining_long = is.remaining_long in
      let hj = are.0 in
      let lots = there j hj in
      let one = tick_same j j refl in
      let first = often-cons j j list in
      let some : 0 < get_or p.remaining j 0 = omega arith in
      let p1 = with_one p j in
      let of1 = with_one_of tiles p j is hj some in
      let rest = picks_listed list tiles number p1 are.1 of1
      (λ k h. (let o = often-cons k j list in let t = there k h in let l = with_one_remaining p j k (omega arith) in omega arith)) in
      let sums = with_one_sum p j (omega arith) in
      let begins = take_first j (number - sum p.taken) (number - sum p1.taken) list (omega arith) in
      let is_rest = first_listed list j number p few some in
      subst (λ (q : Pick). Takes (j ∷ list) tiles number p q) (sym is_rest) (record {
        is_of = rest.is_of;
        took = λ k h.
            (let took = rest.took k h in
            let one = with_one_taken p j k (omega arith) in
            let o = often-cons k j (take (number - sum p1.taken) list) in
            let e = ap (often k) begins in
            omega arith);
        count = let c = rest.count in omega arith;
      })
  | inr full ↦
      let rest = picks_listed list tiles number p are.1 is
      (λ k h. (let o = often-cons k j list in let t = there k h in omega arith)) in
      let is_rest = full_listed list j number p full in
      let zero_remaining : number - sum p.taken ≡ 0 = omega arith in
      subst (λ (q : Pick). Takes (j ∷ list) tiles number p q) (sym is_rest) (record {
        is_of = rest.is_of;
        took = λ k h.
            (let took = rest.took k h in
            let a = ap (often k) (take_none (number - sum p.taken) list zero_remaining) in
            let b = ap (often k) (take_none (number - sum p.taken) (j ∷ list) zero_remaining) in
            omega arith);
        count = let c = rest.count in omega arith;
      })
]

-- ---- other tiles

-- a number of further tiles are taken, and those that are reserved are left
pub record Fills (tiles reserved : List ℕ) (number : ℕ) (p q : Pick) : Type 0 where
  pub is_of : IsOf tiles q
  pub more : sum q.taken ≡ sum p.taken + number
  pub kept : (k : ℕ) → k < 27 → get_or p.taken k 0 ≤ get_or q.taken k 0
  pub spared : (k : ℕ) → k < 27 → often k reserved ≤ get_or q.remaining k 0

pub sum_remaining : (tiles : List ℕ) (p : Pick) → IsOf tiles p → length tiles ≡ 27 → sum p.taken + sum p.remaining ≡ sum tiles
sum_remaining tiles p is long =
    let a = sum_is p.taken is.long in
    let b = sum_is p.remaining is.remaining_long in
    let c = sum_is tiles long in
    let d = sum_of_sums (λ k. get_or p.taken k 0) (λ k. get_or p.remaining k 0) kinds in
    let e = sum_kinds_same (λ k. get_or p.taken k 0 + get_or p.remaining k 0) (λ k. get_or tiles k 0) is.whole in
    omega arith

-- a find over a range: what it gives passes, and if it gives nothing, all fail
pub find_range : (test : ℕ → Bool) (a n : ℕ)
    → ((find test (range_with_len a n) ≡ None) × ((k : ℕ) → a ≤ k → k < a + n → test k ≡ false))
    ⊎ ((k : ℕ) × (find test (range_with_len a n) ≡ Some k) × (k < a + n) × (test k ≡ true))
find_range test a zero = inl (refl, λ k low high. absurd (omega arith))
find_range test a (suc n) = elim (cases_Bool (test a)) [
  | inl yes_it ↦ inr (a, ap (λ (b : Bool). cond b (Some a) (find test (range_with_len (a + 1) n))) yes_it, omega arith, yes_it)
  | inr no_it ↦
      let here : find test (range_with_len a (suc n)) ≡ find test (range_with_len (a + 1) n) =
      ap (λ (b : Bool). cond b (Some a) (find test (range_with_len (a + 1) n))) no_it in
      elim (find_range test (a + 1) n) [
        | inl none ↦ inl (
          here ∙ none.0,
          λ k low high. elim (cases_eq a k) [
            | inl e ↦ subst (λ (i : ℕ). test i ≡ false) e no_it
            | inr ne ↦ none.1 k (omega arith) (omega arith)
          ],
        )
        | inr some ↦ let below = some.2 in inr (some.0, here ∙ some.1, omega arith, some.3)
      ]
]

abbrev spare_test : (reserved remaining : List ℕ) → ℕ → Bool
spare_test reserved remaining k = ltb (often k reserved) (get_or remaining k 0)

-- if there are more tiles than are reserved, one is spare
some_spare : (reserved remaining : List ℕ) → length remaining ≡ 27 → sum_by (λ k. often k reserved) kinds < sum remaining
    → (k : ℕ) × (next_kind reserved remaining ≡ Some k) × (k < 27) × (often k reserved < get_or remaining k 0)
unfolding kinds
some_spare reserved remaining long more = elim (find_range (spare_test reserved remaining) 0 27) [
  | inl none ↦
      let le = sum_kinds_le (λ k. get_or remaining k 0) (λ k. often k reserved)
      (λ k h. ltb-false (often k reserved) (get_or remaining k 0) (none.1 k (omega arith) h)) in
      let s = sum_is remaining long in
      absurd (omega arith)
  | inr some ↦ (some.0, ap (λ (o : Option ℕ). option_or o (find (λ k. ltb 0 (get_or remaining k 0)) kinds)) some.1, some.2, ltb-true (often some.0 reserved) (get_or remaining some.0 0) some.3)
]

next_more : (reserved : List ℕ) (number k : ℕ) (p : Pick) → next_kind reserved p.remaining ≡ Some k
    → pick_more reserved (suc number) p ≡ pick_more reserved number (with_one p k)
next_more reserved number k p e = ap (λ (o : Option ℕ). pick_more reserved number (with_next p o)) e

pub fills : (tiles reserved : List ℕ) (number : ℕ) (p : Pick) → length tiles ≡ 27 → IsOf tiles p → ((k : ℕ) → k < 27 → often k reserved ≤ get_or p.remaining k 0)
    → sum_by (λ k. often k reserved) kinds + number ≤ sum p.remaining → Fills tiles reserved number p (pick_more reserved number p)
fills tiles reserved zero p long is spared room = record {
  is_of = is;
  more = omega arith;
  kept = λ k h. omega arith;
  spared = spared;
}
fills tiles reserved (suc number) p long is spared room =
    let taken_long = is.long in
    let remaining_long = is.remaining_long in
    let next = some_spare reserved p.remaining remaining_long (omega arith) in
    let j = next.0 in
    let below : j < 27 = next.2 in
    let spare : often j reserved < get_or p.remaining j 0 = next.3 in
    let of1 = with_one_of tiles p j is below (omega arith) in
    let sums = with_one_sum p j (omega arith) in
    let before = sum_remaining tiles p is long in
    let after = sum_remaining tiles (with_one p j) of1 long in
    let rest = fills tiles reserved number (with_one p j) long of1
    (λ k h. elim (cases_eq j k) [
      | inl e ↦ subst (λ (i : ℕ). often i reserved ≤ get_or (with_one p j).remaining i 0) e
          (let l = with_one_remaining p j j (omega arith) in let t = tick_same j j refl in omega arith)
      | inr ne ↦ let l = with_one_remaining p j k (omega arith) in let t = tick_other j k ne in let s = spared k h in omega arith
    ])
    (omega arith) in
    subst (λ (q : Pick). Fills tiles reserved (suc number) p q) (sym (next_more reserved number j p next.1)) (record {
      is_of = rest.is_of;
      more = let m = rest.more in omega arith;
      kept = λ k h. (let kept = rest.kept k h in let t = with_one_taken p j k (omega arith) in omega arith);
      spared = rest.spared;
    })

-- ---- a whole pick

tick_sum : (j a n : ℕ) → (j < a → sum_by (λ k. tick j k) (range_with_len a n) ≡ 0) × (sum_by (λ k. tick j k) (range_with_len a n) ≤ 1)
tick_sum j a zero = ((λ h. refl), omega arith)
tick_sum j a (suc n) =
    let c = sum_by-cons (λ (k : ℕ). tick j k) a (range_with_len (a + 1) n) in
    let rest = tick_sum j (a + 1) n in
    let low = rest.0 in
    let most = rest.1 in (
      (λ h. let t = tick_other j a (λ (e : j ≡ a). omega arith) in let l = low (omega arith) in omega arith),
      elim (cases_eq j a) [
        | inl e ↦ let t = tick_same j a e in let l = low (omega arith) in omega arith
        | inr ne ↦ let t = tick_other j a ne in omega arith
      ],
    )

-- there are at most as many tiles of all kinds as there are tiles
kinds_most : (ys : List ℕ) → sum_by (λ k. often k ys) kinds ≤ length ys
unfolding kinds
kinds_most [] = omega (arith, sum_of_none kinds)
kinds_most (y ∷ ys) =
    let e = sum_kinds_same (λ k. often k (y ∷ ys)) (λ k. tick y k + often k ys) (λ k h. often-cons k y ys) in
    let d = sum_of_sums (λ k. tick y k) (λ k. often k ys) kinds in
    let t = (tick_sum y 0 27).1 in
    let rest = kinds_most ys in
    omega arith

-- What a pick gives: the requested number of tiles, those of a list first, and no reserved one among the others.
pub record Picks (list reserved tiles : List ℕ) (number : ℕ) (q : Pick) : Type 0 where
  pub is_of : IsOf tiles q
  pub all : sum q.taken ≡ number
  pub spare : (k : ℕ) → k < 27 → (often k list - get_or q.taken k 0) + often k reserved ≤ get_or q.remaining k 0
  pub front : (xs rest : List ℕ) → list ≡ xs ++ rest → sum_by (λ k. often k xs - get_or q.taken k 0) kinds ≤ length xs - number

-- a part of a list has no more of a kind than all of it
often_take : (k n : ℕ) (list : List ℕ) → often k (take n list) ≤ often k list
often_take k n list = sum_by-take-le (λ (j : ℕ). cond {A = ℕ} (j == k) 1 0) list n

-- the front of a longer list has the front of a shorter one
often_front : (k n : ℕ) (xs rest : List ℕ) → often k (take n xs) ≤ often k (take n (xs ++ rest))
often_front k n xs rest = elim (cases_lt n (length xs)) [
  | inl lt ↦ let e = ap (often k) (take-append-le n xs rest (omega arith)) in omega arith
  | inr ge ↦ long n xs rest ge
]
  where
    long : (n : ℕ) (xs rest : List ℕ) → length xs ≤ n → often k (take n xs) ≤ often k (take n (xs ++ rest))
    long zero xs rest le = omega arith
    long (suc n) [] rest le = omega arith
    long (suc n) (x ∷ xs) rest le =
        let a = often-cons k x (take n xs) in
        let b = often-cons k x (take n (xs ++ rest)) in
        let r = long n xs rest (omega arith) in
        omega arith

abbrev unpicked : List ℕ → Pick
unpicked tiles = record { taken = no_tiles; remaining = tiles }

unpicked_of : (tiles : List ℕ) → length tiles ≡ 27 → IsOf tiles (unpicked tiles)
unpicked_of tiles long = record {
  long = length-no_tiles;
  remaining_long = long;
  whole = λ k h. let z = get-no_tiles k h in omega arith;
}

pub picks : (list reserved tiles : List ℕ) (number : ℕ) → AreKinds list → length tiles ≡ 27
    → ((k : ℕ) → k < 27 → often k list + often k reserved ≤ get_or tiles k 0)
    → sum_by (λ k. often k reserved) kinds + number ≤ sum tiles
    → Picks list reserved tiles number (pick list reserved number tiles)
unfolding pick
picks list reserved tiles number are long there room =
    let none = sum-no_tiles in
    let p = pick_listed list number (unpicked tiles) in
    let takes = picks_listed list tiles number (unpicked tiles) are (unpicked_of tiles long) (λ k h. let t = there k h in omega arith) in
    let count = takes.count in
    let number_is : number - sum no_tiles ≡ number = omega arith in
    let took : (k : ℕ) → k < 27 → get_or p.taken k 0 ≡ often k (take number list) =
    λ k h. let t = takes.took k h in let z = get-no_tiles k h in let e = ap (λ (n : ℕ). often k (take n list)) number_is in omega arith in
    let remaining : (k : ℕ) → k < 27 → often k reserved ≤ get_or p.remaining k 0 =
    λ k h. let t = there k h in let w = takes.is_of.whole k h in let m = took k h in let l = often_take k number list in omega arith in
    let sums = sum_remaining tiles p takes.is_of long in
    let full = fills tiles reserved (number - sum p.taken) p long takes.is_of remaining (omega arith) in
    let q = pick_more reserved (number - sum p.taken) p in
    let more = full.more in
    record {
      is_of = full.is_of;
      all = omega arith;
      spare = λ k h. elim (cases_lt number (length list)) [
        | inl lt ↦
            let w = full.is_of.whole k h in
            let t = there k h in
            let kept = full.kept k h in
            let done : number - sum p.taken ≡ 0 = omega arith in
            let same : get_or q.taken k 0 ≡ get_or p.taken k 0 = ap (λ (n : ℕ). get_or (pick_more reserved n p).taken k 0) done in
            let m = took k h in
            let l = often_take k number list in
            omega arith
        | inr ge ↦
            let m = took k h in
            let e = ap (often k) (take_all number list ge) in
            let kept = full.kept k h in
            let s = full.spared k h in
            omega arith
      ];
      front = λ xs rest is.
          let le = sum_kinds_le (λ k. often k xs - get_or q.taken k 0) (λ k. often k (drop number xs))
          (λ k h.
          let m = took k h in
          let kept = full.kept k h in
          let e = ap (λ (l : List ℕ). often k (take number l)) is in
          let f = often_front k number xs rest in
          let parts = often-append k (take number xs) (drop number xs) in
          let back = ap (often k) (take-append-drop number xs) in
          omega arith) in
          let most = kinds_most (drop number xs) in
          let d = length-drop number xs in
          omega arith;
    }

-- ---- nothing is lost

below_remaining : (xs : List ℕ) (k : ℕ) → length xs ≡ 27 → 0 < get_or xs k 0 → k < 27
below_remaining xs k long there = elim (cases_lt k 27) [
  | inl lt ↦ lt
  | inr ge ↦ let e = get_or_past xs k 0 (omega arith) in absurd (omega arith)
]

listed_of : (list tiles : List ℕ) (number : ℕ) (p : Pick) → IsOf tiles p → IsOf tiles (pick_listed list number p)
listed_of [] tiles number p is = is
listed_of (j ∷ list) tiles number p is = elim (cases_Bool (ltb (sum p.taken) number && ltb 0 (get_or p.remaining j 0))) [
  | inl yes_it ↦
      let parts = and_parts (ltb (sum p.taken) number) (ltb 0 (get_or p.remaining j 0)) yes_it in
      let there = ltb-true 0 (get_or p.remaining j 0) parts.1 in
      let below = below_remaining p.remaining j is.remaining_long there in
      subst (λ (b : Bool). IsOf tiles (pick_listed list number (if b then with_one p j else p))) (sym yes_it)
      (listed_of list tiles number (with_one p j) (with_one_of tiles p j is below there))
  | inr no_it ↦
      subst (λ (b : Bool). IsOf tiles (pick_listed list number (if b then with_one p j else p))) (sym no_it)
      (listed_of list tiles number p is)
]

next_of : (tiles reserved : List ℕ) (p : Pick) → IsOf tiles p → IsOf tiles (with_next p (next_kind reserved p.remaining))
unfolding kinds
next_of tiles reserved p is = elim (find_range (spare_test reserved p.remaining) 0 27) [
  | inl none ↦ subst (λ (o : Option ℕ). IsOf tiles (with_next p (option_or o (find (λ k. ltb 0 (get_or p.remaining k 0)) kinds)))) (sym none.0)
      (elim (find_range (λ k. ltb 0 (get_or p.remaining k 0)) 0 27) [
        | inl empty ↦ subst (λ (o : Option ℕ). IsOf tiles (with_next p o)) (sym empty.0) is
        | inr some ↦ subst (λ (o : Option ℕ). IsOf tiles (with_next p o)) (sym some.1)
            (with_one_of tiles p some.0 is some.2 (ltb-true 0 (get_or p.remaining some.0 0) some.3))
      ])
  | inr some ↦ subst (λ (o : Option ℕ). IsOf tiles (with_next p (option_or o (find (λ k. ltb 0 (get_or p.remaining k 0)) kinds)))) (sym some.1)
      (with_one_of tiles p some.0 is some.2 (let lt = ltb-true (often some.0 reserved) (get_or p.remaining some.0 0) some.3 in omega arith))
]

more_of : (tiles reserved : List ℕ) (number : ℕ) (p : Pick) → IsOf tiles p → IsOf tiles (pick_more reserved number p)
more_of tiles reserved zero p is = is
more_of tiles reserved (suc number) p is = more_of tiles reserved number (with_next p (next_kind reserved p.remaining)) (next_of tiles reserved p is)

pub pick_of : (list reserved tiles : List ℕ) (number : ℕ) → length tiles ≡ 27 → IsOf tiles (pick list reserved number tiles)
unfolding pick
pick_of list reserved tiles number long =
    more_of tiles reserved (number - sum (pick_listed list number (unpicked tiles)).taken) (pick_listed list number (unpicked tiles))
    (listed_of list tiles number (unpicked tiles) (unpicked_of tiles long))
