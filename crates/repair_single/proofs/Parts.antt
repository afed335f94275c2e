-- A few consecutive elements of a list, and the same elements of a list in which some are changed.
use Rattle.std.proofs.Common.{◌≡◌, ◌⊎◌, inl, inr, ℕ, zero, suc, ◌+◌, ◌<◌, ◌≤◌, Bool, true, false, List, [], ◌∷◌, ◌++◌, length, take, drop, slice_get, nat_le, refl, sym, ap, ◌∙◌, arith, if◌then◌else◌}
use Rattle.std.proofs.lemmas.Bool.{cases_lt, le-leb}
use Rattle.std.proofs.lemmas.List.{append_assoc, length-append, length-drop, length-take-le, take-append-drop}
use Rattle.repair_changes.specs.Splices.{spliced}
use Rattle.repair_single.proofs.Lists.{get_take, get_front, take_less}

-- ---- elements of joined lists

pub get_drop : {X : Type 0} (xs : List X) (n k : ℕ) → slice_get (drop n xs) k ≡ slice_get xs (n + k)
get_drop {X} xs zero k = let same : k ≡ 0 + k = omega arith in ap (slice_get xs) same
get_drop [] (suc n) k = refl
get_drop {X} (x ∷ xs) (suc n) k = let step : suc (n + k) ≡ suc n + k = omega arith in get_drop xs n k ∙ ap (λ (j : ℕ). slice_get (x ∷ xs) j) step

pub get_in : {X : Type 0} (xs ys : List X) (k : ℕ) → k < length xs → slice_get (xs ++ ys) k ≡ slice_get xs k
get_in [] ys k within = absurd (omega (arith, within))
get_in (x ∷ xs) ys zero within = refl
get_in (x ∷ xs) ys (suc k) within = get_in xs ys k (omega (arith, within))

pub get_past : {X : Type 0} (xs ys : List X) (k : ℕ) → slice_get (xs ++ ys) (length xs + k) ≡ slice_get ys k
get_past {X} [] ys k = let same : 0 + k ≡ k = omega arith in ap (slice_get ys) same
get_past {X} (x ∷ xs) ys k = let step : suc (length xs) + k ≡ suc (length xs + k) = omega arith in ap (slice_get (x ∷ xs ++ ys)) step ∙ get_past xs ys k

pub get_after : {X : Type 0} (xs rest : List X) (n k : ℕ) → n ≤ length xs → slice_get (take n xs ++ rest) (n + k) ≡ slice_get rest k
get_after {X} xs rest n k within =
    ap (λ (m : ℕ). slice_get (take n xs ++ rest) (m + k)) (sym (length-take-le n xs within)) ∙ get_past (take n xs) rest k

-- ---- a list in which some consecutive elements are others

abbrev pub put : {X : Type 0} → (start : ℕ) → (near all : List X) → List X
put start near all = take start all ++ (near ++ drop (start + length near) all)

pub put_before : {X : Type 0} (start k : ℕ) (near all : List X) → start ≤ length all → k < start → slice_get (put start near all) k ≡ slice_get all k
put_before start k near all within below = get_front all (near ++ drop (start + length near) all) start k below within

pub put_there : {X : Type 0} (start k : ℕ) (near all : List X) → start ≤ length all → k < length near → slice_get (put start near all) (start + k) ≡ slice_get near k
put_there start k near all within below =
    get_after all (near ++ drop (start + length near) all) start k within ∙ get_in near (drop (start + length near) all) k below

pub put_past : {X : Type 0} (start k : ℕ) (near all : List X) → start ≤ length all → slice_get (put start near all) (start + length near + k) ≡ slice_get all (start + length near + k)
put_past {X} start k near all within =
    let step : start + length near + k ≡ start + (length near + k) = omega arith in
    ap (slice_get (put start near all)) step ∙ get_after all (near ++ drop (start + length near) all) start (length near + k) within
    ∙ get_past near (drop (start + length near) all) k ∙ get_drop all (start + length near) k

pub put_many : {X : Type 0} (start : ℕ) (near all : List X) → start + length near ≤ length all → length (put start near all) ≡ length all
put_many start near all within =
    let one = length-append (take start all) (near ++ drop (start + length near) all) in
    let two = length-append near (drop (start + length near) all) in
    let front = length-take-le start all (omega (arith, within)) in
    let back = length-drop (start + length near) all in
    omega (arith, one, two, front, back, within)

-- ---- a change among some consecutive elements

mid : {X : Type 0} (n many m : ℕ) (xs : List X) → n + many ≤ m → take many (drop n (take m xs)) ≡ take many (drop n xs)
mid zero many m xs within = take_less xs m many (omega (arith, within))
mid (suc n) many zero xs within = absurd (omega (arith, within))
mid (suc n) many (suc m) [] within = refl
mid (suc n) many (suc m) (x ∷ xs) within = mid n many m xs (omega (arith, within))

tail : {X : Type 0} (k m : ℕ) (xs : List X) → k ≤ m → drop k (take m xs) ++ drop m xs ≡ drop k xs
tail zero m xs within = take-append-drop m xs
tail (suc k) zero xs within = absurd (omega (arith, within))
tail (suc k) (suc m) [] within = refl
tail (suc k) (suc m) (x ∷ xs) within = tail k m xs (omega (arith, within))

abbrev laid : {X : Type 0} → (n many : ℕ) → (List X → List X) → List X → List X
laid n many f xs = take n xs ++ f (take many (drop n xs)) ++ drop (n + many) xs

is_laid_by : {X : Type 0} (n many : ℕ) (f : List X → List X) (xs : List X) (b : Bool) → nat_le (n + many) (length xs) ≡ b → n + many ≤ length xs → (if b then laid n many f xs else xs) ≡ laid n many f xs
is_laid_by n many f xs true is within = refl
is_laid_by n many f xs false is within = let some = le-leb (n + many) (length xs) within in cc

is_laid : {X : Type 0} (n many : ℕ) (f : List X → List X) (xs : List X) → n + many ≤ length xs → spliced n many f xs ≡ laid n many f xs
unfolding spliced
is_laid n many f xs within = is_laid_by n many f xs (nat_le (n + many) (length xs)) refl within

front_laid : {X : Type 0} (n many m : ℕ) (f : List X → List X) (xs : List X) → n + many ≤ m → laid n many f xs ≡ laid n many f (take m xs) ++ drop m xs
front_laid {X} n many m f xs within =
    let y = take m xs in
    ap (λ (zs : List X). zs ++ f (take many (drop n xs)) ++ drop (n + many) xs) (sym (take_less xs m n (omega (arith, within))))
    ∙ ap (λ (zs : List X). take n y ++ f zs ++ drop (n + many) xs) (sym (mid n many m xs within))
    ∙ ap (λ (zs : List X). take n y ++ f (take many (drop n y)) ++ zs) (sym (tail (n + many) m xs within))
    ∙ sym (append_assoc (take n y ++ f (take many (drop n y))) (drop (n + many) y) (drop m xs))

back_laid : {X : Type 0} (s n p many : ℕ) (f : List X → List X) (xs : List X) → p ≡ s + n → s ≤ length xs → laid p many f xs ≡ take s xs ++ laid n many f (drop s xs)
back_laid zero n p many f xs is within = let same : p ≡ n = omega (arith, is) in ap (λ (q : ℕ). laid q many f xs) same
back_laid (suc s) n p many f [] is within = absurd (omega (arith, within))
back_laid {X} (suc s) n zero many f (x ∷ xs) is within = absurd (omega (arith, is))
back_laid {X} (suc s) n (suc p) many f (x ∷ xs) is within =
    let step : suc p + many ≡ suc (p + many) = omega arith in
    ap (λ (q : ℕ). (x ∷ take p xs) ++ f (take many (drop p xs)) ++ drop q (x ∷ xs)) step
    ∙ ap (λ (zs : List X). x ∷ zs) (back_laid s n p many f xs (omega (arith, is)) (omega (arith, within)))

-- The consecutive elements of a changed list from a place on: they are those of the list itself with the change, and the last of them and all after
-- it are as they were.
pub record AreNear {X : Type 0} (s m : ℕ) (changed near xs : List X) : Type 0 where
  pub inner : ℕ
  pub long : length near ≡ inner + 1
  pub all : length changed + (s + m) ≡ length xs + (s + inner)
  pub same : (k : ℕ) → k < length near → slice_get changed (s + k) ≡ slice_get near k
  pub rest : (i : ℕ) → slice_get changed (s + inner + i) ≡ slice_get xs (s + m + i)

near_by : {X : Type 0} (s m k : ℕ) (inner back last : List X) → slice_get back 0 ≡ slice_get last 0 → k < length inner + 1 → (k < length inner) ⊎ (length inner ≤ k)
    → slice_get (inner ++ back) k ≡ slice_get (inner ++ last) k
near_by s m k inner back last here below (inl less) = get_in inner back k less ∙ sym (get_in inner last k less)
near_by s m k inner back last here below (inr past) =
    let at : k ≡ length inner + 0 = omega (arith, below, past) in
    ap (slice_get (inner ++ back)) at ∙ get_past inner back 0 ∙ here ∙ sym (get_past inner last 0) ∙ ap (slice_get (inner ++ last)) (sym at)

pub are_near : {X : Type 0} (s n p many m : ℕ) (f : List X → List X) (xs : List X) → p ≡ s + n → n + many ≤ m → s + m < length xs
    → AreNear s m (spliced p many f xs) (spliced n many f (take (m + 1) (drop s xs))) xs
are_near {X} s n p many m f xs is within enough =
    let z = drop s xs in
    let y = take (m + 1) z in
    let inner = laid n many f (take m z) in
    let long_z = length-drop s xs in
    let long_y = length-take-le (m + 1) z (omega (arith, long_z, enough)) in
    let changed : spliced p many f xs ≡ take s xs ++ (inner ++ drop m z) =
    is_laid p many f xs (omega (arith, is, within, enough)) ∙ back_laid s n p many f xs is (omega (arith, enough))
    ∙ ap (λ (zs : List X). take s xs ++ zs) (front_laid n many m f z within) in
    let near : spliced n many f y ≡ inner ++ drop m y =
    is_laid n many f y (omega (arith, within, long_y)) ∙ front_laid n many m f y within
    ∙ ap (λ (zs : List X). laid n many f zs ++ drop m y) (take_less z (m + 1) m (omega arith)) in
    let long_last = length-drop m y in
    let long_near = length-append inner (drop m y) in
    let count_near : length (spliced n many f y) ≡ length (inner ++ drop m y) = ap (λ (zs : List X). length zs) near in
    let count_changed : length (spliced p many f xs) ≡ length (take s xs ++ (inner ++ drop m z)) = ap (λ (zs : List X). length zs) changed in
    let one = length-append (take s xs) (inner ++ drop m z) in
    let two = length-append inner (drop m z) in
    let front = length-take-le s xs (omega (arith, enough)) in
    let back = length-drop m z in
    let here : slice_get (drop m z) 0 ≡ slice_get (drop m y) 0 =
    get_drop z m 0 ∙ sym (get_take z (m + 1) (m + 0) (omega arith)) ∙ sym (get_drop y m 0) in
    let long : length (spliced n many f y) ≡ length inner + 1 = omega (arith, long_y, long_last, long_near, count_near) in
    record {
      inner = length inner;
      long = long;
      all = omega (arith, count_changed, one, two, front, back, long_z, enough);
      same = λ k below.
          ap (λ (zs : List X). slice_get zs (s + k)) changed ∙ get_after xs (inner ++ drop m z) s k (omega (arith, enough))
          ∙ near_by s m k inner (drop m z) (drop m y) here (omega (arith, below, long)) (cases_lt k (length inner)) ∙ ap (λ (zs : List X). slice_get zs k) (sym near);
      rest = λ i.
          let at : s + length inner + i ≡ s + (length inner + i) = omega arith in
          let to : s + (m + i) ≡ s + m + i = omega arith in
          ap (slice_get (spliced p many f xs)) at ∙ ap (λ (zs : List X). slice_get zs (s + (length inner + i))) changed
          ∙ get_after xs (inner ++ drop m z) s (length inner + i) (omega (arith, enough)) ∙ get_past inner (drop m z) i ∙ get_drop z m i ∙ get_drop xs s (m + i) ∙ ap (slice_get xs) to;
    }
