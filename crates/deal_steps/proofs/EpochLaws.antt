-- What left a rack in the present epoch, and the most that a moment of it shows, by the steps of the epoch.
use Rattle.std.proofs.Common.{◌≡◌, ℕ, ◌<◌, ◌≤◌, Bool, true, false, cond, List, [], ◌∷◌, ◌++◌, get_or, drop, Option, Some, None, refl, sym, ap, subst, ◌∙◌, ◌⊎◌, inl, inr, arith}
use Rattle.std.specs.List.{sum_by}
use Rattle.std.proofs.lemmas.Bool.{cases_lt}
use Rattle.std.proofs.lemmas.List.Sums.{sum_by-cons}
use Rattle.ref_tiles.specs.Counting.{no_tiles}
use Rattle.gcg_read.specs.declared.events.Seat.{Seat}
use Rattle.deal_steps.specs.declared.steps.Step.{Step}
use Rattle.deal_steps.specs.Piles.{joined, greater}
use Rattle.deal_steps.specs.Steps.{remaining_in, ends_epoch, needed}
use Rattle.deal_steps.specs.Bounds.{gone, low, raised}
use Rattle.deal_steps.specs.Laws.{since, Shows, GoneIsSum, LowIsMost, LowIsReached}
use Rattle.deal_steps.proofs.PileLaws.{get-joined, get-greater, get-no_tiles}

-- ---- what left a rack

pub gone_is_sum : GoneIsSum
gone_is_sum seat [] k below = get-no_tiles k below
gone_is_sum seat (s ∷ past) k below = by (ends_epoch seat s) (gone_is_sum seat past k below)
  where
    by : (ends : Bool) → get_or (gone seat past) k 0 ≡ sum_by (λ t. get_or (remaining_in seat t) k 0) (since seat past)
        → get_or (cond ends no_tiles (joined (gone seat past) (remaining_in seat s))) k 0 ≡ sum_by (λ t. get_or (remaining_in seat t) k 0) (cond ends [] (s ∷ since seat past))
    by true before = get-no_tiles k below
    by false before =
        let both = get-joined (gone seat past) (remaining_in seat s) k below in
        let sums = sum_by-cons (λ t. get_or (remaining_in seat t) k 0) s (since seat past) in
        omega (arith, before, both, sums)

-- the steps of earlier epochs do not matter for it
gone_since : (seat : Seat) (past : List Step) → gone seat (since seat past) ≡ gone seat past
gone_since seat [] = refl
gone_since seat (s ∷ past) = by (ends_epoch seat s) refl (gone_since seat past)
  where
    by : (ends : Bool) → ends_epoch seat s ≡ ends → gone seat (since seat past) ≡ gone seat past
        → gone seat (cond ends [] (s ∷ since seat past)) ≡ cond ends no_tiles (joined (gone seat past) (remaining_in seat s))
    by true e before = refl
    by false e before = rw e (ap (λ (xs : List ℕ). joined xs (remaining_in seat s)) before)

-- ---- the most that a moment shows

no_split : (later : List Step) (moment : Step) (earlier : List Step) → [] ≡ later ++ moment ∷ earlier → ⊥
no_split [] moment earlier e = cc
no_split (s ∷ later) moment earlier e = cc

raised_shows : (gone low tiles : List ℕ) (need : Option (List ℕ)) (k : ℕ) → k < 27 → need ≡ Some tiles
    → get_or (joined gone tiles) k 0 ≤ get_or (raised gone low need) k 0
raised_shows gone low tiles None k below e = absurd cc
raised_shows gone low tiles (Some others) k below e =
    let same : others ≡ tiles = cc in
    let most = get-greater low (joined gone others) k below in
    rw (sym same) (omega (arith, most))

raised_more : (gone low : List ℕ) (need : Option (List ℕ)) (k : ℕ) → k < 27 → get_or low k 0 ≤ get_or (raised gone low need) k 0
raised_more gone low None k below = omega arith
raised_more gone low (Some tiles) k below = let most = get-greater low (joined gone tiles) k below in omega (arith, most)

-- the moments of a past, each in its place
most_at : (seat : Seat) (past : List Step) (k : ℕ) → k < 27 → (later : List Step) (moment : Step) (earlier : List Step) (tiles : List ℕ)
    → since seat past ≡ later ++ moment ∷ earlier → needed seat moment ≡ Some tiles
    → get_or (joined (gone seat earlier) tiles) k 0 ≤ get_or (low seat past) k 0
most_at seat [] k below later moment earlier tiles e needs = absurd (no_split later moment earlier e)
most_at seat (s ∷ past) k below later moment earlier tiles e needs = by (ends_epoch seat s) later e (λ l f. most_at seat past k below l moment earlier tiles f needs)
  where
    by : (ends : Bool) (later : List Step) → cond ends [] (s ∷ since seat past) ≡ later ++ moment ∷ earlier
        → ((l : List Step) → since seat past ≡ l ++ moment ∷ earlier → get_or (joined (gone seat earlier) tiles) k 0 ≤ get_or (low seat past) k 0)
        → get_or (joined (gone seat earlier) tiles) k 0 ≤ get_or (cond ends no_tiles (raised (gone seat past) (low seat past) (needed seat s))) k 0
    by true later e before = absurd (no_split later moment earlier e)
    by false [] e before =
        let here : s ≡ moment = ap (λ (xs : List Step). get_or xs 0 s) e in
        let rest : since seat past ≡ earlier = ap (drop 1) e in
        let remaining : gone seat past ≡ gone seat earlier = sym (gone_since seat past) ∙ ap (gone seat) rest in
        let needs_here : needed seat s ≡ Some tiles = ap (needed seat) here ∙ needs in
        rw (sym remaining) (raised_shows (gone seat past) (low seat past) tiles (needed seat s) k below needs_here)
    by false (x ∷ l) e before =
        let rest : since seat past ≡ l ++ moment ∷ earlier = ap (drop 1) e in
        let fewer = before l rest in
        let more = raised_more (gone seat past) (low seat past) (needed seat s) k below in
        omega (arith, fewer, more)

pub low_is_most : LowIsMost
low_is_most seat past k below shown shows =
    rw shows.is (most_at seat past k below shows.later shows.moment shows.earlier shows.tiles shows.splits shows.needs)

-- a number is 0, or a moment shows that many
IsReached : Seat → List Step → ℕ → (number : ℕ) → Type 0
IsReached seat past k number = (number ≡ 0) ⊎ ((shown : List ℕ) × Shows seat past shown × (get_or shown k 0 ≡ number))

-- what an earlier moment shows is still shown
still_shows : (seat : Seat) (s : Step) (past : List Step) (shown : List ℕ) → ends_epoch seat s ≡ false → Shows seat past shown → Shows seat (s ∷ past) shown
still_shows seat s past shown e shows =
    record {
      later = s ∷ shows.later;
      moment = shows.moment;
      earlier = shows.earlier;
      tiles = shows.tiles;
      splits = rw e (ap (λ (xs : List Step). s ∷ xs) shows.splits);
      needs = shows.needs;
      is = shows.is;
    }

shows_now : (seat : Seat) (s : Step) (past : List Step) (tiles : List ℕ) → ends_epoch seat s ≡ false → needed seat s ≡ Some tiles
    → Shows seat (s ∷ past) (joined (gone seat past) tiles)
shows_now seat s past tiles e needs =
    record {
      later = [];
      moment = s;
      earlier = since seat past;
      tiles = tiles;
      splits = rw e refl;
      needs = needs;
      is = ap (λ (xs : List ℕ). joined xs tiles) (sym (gone_since seat past));
    }

still_reached : (seat : Seat) (s : Step) (past : List Step) (k number : ℕ) → ends_epoch seat s ≡ false → IsReached seat past k number → IsReached seat (s ∷ past) k number
unfolding IsReached
still_reached seat s past k number e (inl none) = inl none
still_reached seat s past k number e (inr found) = inr (found.0, still_shows seat s past found.0 e found.1, found.2)

reached_by : (seat : Seat) (past : List Step) (k : ℕ) → k < 27 → IsReached seat past k (get_or (low seat past) k 0)
unfolding IsReached
reached_by seat [] k below = inl (get-no_tiles k below)
reached_by seat (s ∷ past) k below = by (ends_epoch seat s) refl (needed seat s) refl (reached_by seat past k below)
  where
    by : (ends : Bool) → ends_epoch seat s ≡ ends → (need : Option (List ℕ)) → needed seat s ≡ need → IsReached seat past k (get_or (low seat past) k 0)
        → IsReached seat (s ∷ past) k (get_or (cond ends no_tiles (raised (gone seat past) (low seat past) need)) k 0)
    by true e need n before = inl (get-no_tiles k below)
    by false e None n before = still_reached seat s past k (get_or (low seat past) k 0) e before
    by false e (Some tiles) n before =
        let most = get-greater (low seat past) (joined (gone seat past) tiles) k below in
        elim (cases_lt (get_or (joined (gone seat past) tiles) k 0) (get_or (low seat past) k 0)) [
          | inl fewer ↦
              let same : get_or (low seat past) k 0 ≡ get_or (greater (low seat past) (joined (gone seat past) tiles)) k 0 = omega (arith, most, fewer) in
              subst (λ (n : ℕ). IsReached seat (s ∷ past) k n) same (still_reached seat s past k (get_or (low seat past) k 0) e before)
          | inr more ↦ inr (joined (gone seat past) tiles, shows_now seat s past tiles e n, omega (arith, most, more))
        ]

pub low_is_reached : LowIsReached
unfolding IsReached
low_is_reached seat past k below = reached_by seat past k below
