-- Lists that a loop goes through from the front.
use Rattle.std.proofs.Common.{◌≡◌, ℕ, ◌+◌, ◌<◌, Bool, true, List, [], ◌∷◌, ◌++◌, length, get_or, take, Option, Some, arith, refl}
use Rattle.std.specs.Prelude.{is_some, slice_set}
use Rattle.std.specs.List.{list_all, filter_map}
use Rattle.std.proofs.lemmas.List.{take_more, take_more_set, length-set}
use Rattle.std.proofs.lemmas.List.Elements.{filter_map-append}
use Rattle.std.proofs.lemmas.List.Folds.{list_all_more}

-- one more element that gives something
pub filter_map_step : {X Y : Type 0} (h : X → Option Y) (xs : List X) (i : ℕ) (d : X) (y : Y) → i < length xs → h (get_or xs i d) ≡ Some y
    → filter_map h (take (i + 1) xs) ≡ filter_map h (take i xs) ++ y ∷ []
filter_map_step h xs i d y lt e =
    rw (take_more xs i d lt, filter_map-append h (take i xs) (get_or xs i d ∷ []), e) refl

-- one more element that passes
pub list_all_step : {X : Type 0} (p : X → Bool) (xs : List X) (i : ℕ) (d : X) → i < length xs → list_all p (take i xs) ≡ true → p (get_or xs i d) ≡ true
    → list_all p (take (i + 1) xs) ≡ true
list_all_step p xs i d lt before here = rw (list_all_more p xs i d lt, before, here) refl

-- how far an array of this size is filled with what the elements of a list give: each so far has given something, and the array
-- begins with that
pub record IsFilled {X Y : Type 0} (h : X → Option Y) (size : ℕ) (xs : List X) (i : ℕ) (ys : List Y) : Type 0 where
  pub front : take i ys ≡ filter_map h (take i xs)
  pub each : list_all (λ x. is_some (h x)) (take i xs) ≡ true
  pub whole : length ys ≡ size

-- one more element gives something, which is put in its place
pub fill_step : {X Y : Type 0} (h : X → Option Y) (size : ℕ) (xs : List X) (i : ℕ) (d : X) (y : Y) (ys : List Y) → i < length xs → i < size → h (get_or xs i d) ≡ Some y
    → IsFilled h size xs i ys → IsFilled h size xs (i + 1) (slice_set ys i y)
fill_step h size xs i d y ys lt below found so_far =
    let room : i < length ys = omega (arith, so_far.whole) in
    record {
      front = rw (take_more_set ys i y room, so_far.front, filter_map_step h xs i d y lt found) refl;
      each = list_all_step (λ x. is_some (h x)) xs i d lt so_far.each (rw found refl);
      whole = rw (length-set ys i y) so_far.whole;
    }
