-- The tallies of a line, place by place.
use Rattle.std.proofs.Common.{◌≡◌, ℕ, suc, ◌+◌, ◌-◌, ◌*◌, ◌<◌, ◌≤◌, ◌||◌, not, Bool, true, false, nat_le, if◌then◌else◌, sym, ap, ◌∙◌, subst, arith, ⊎_elim, refl, Option, Some, None, is_some}
use Rattle.std.proofs.lemmas.Bool.{cases_eq, cases_lt, cases_Bool, both_ways}
use Rattle.std.proofs.Math.Nat.{mul-le-mul, pow-le-pow_right}
use Rattle.ref_tiles.specs.declared.tiles.Tile.{Tile}
use Rattle.ref_tiles.specs.declared.rulebook.Rules.{Rules}
use Rattle.ref_play.proofs.ScoreLemmas.{factor_limit}
use Rattle.gen_moves.specs.declared.places.Place.{Place}
use Rattle.gen_moves.specs.declared.tallies.Tally.{Tally}
use Rattle.gen_moves.specs.Bounds.{total, times, one_if, free_count, IsSmall}
use Rattle.gen_moves.specs.Tallies.{points_at, is_laid, letter_sum, cross_sum, tally, IsSmallTally, LiesOn}
use Rattle.gen_moves.proofs.Longest.{one_or_none, total-inside}
use Rattle.std.specs.Prelude.{◌^◌}

-- ---- small numbers
pub tally_up : (n m : ℕ) (t : Tally) → n ≤ m → IsSmallTally n t → IsSmallTally m t
tally_up n m t le small =
    let most : 3 ^ n ≤ 3 ^ m = pow-le-pow_right {n = 3} (omega arith) {i = n} {j = m} le in
    record { letters = omega arith; word = omega arith; crosses = omega arith; free = omega arith }

pub small_none : (len : ℕ) (t : Tally) → t.letters ≡ 0 → t.word ≡ 1 → t.crosses ≡ 0 → t.free ≡ 0 → IsSmallTally len t
small_none len t letters word crosses free =
    let least : 3 ^ 0 ≤ 3 ^ len = pow-le-pow_right {n = 3} (omega arith) {i = 0} {j = len} (omega arith) in
    record { letters = omega arith; word = omega arith; crosses = omega arith; free = omega arith }

pub small_more : (n p : ℕ) (t more : Tally) (place : Place) → IsSmallTally n t → IsSmall place → p ≤ 99 → more.letters ≡ t.letters + (place.old + place.letter * p) → more.word ≡ t.word * place.word
    → more.crosses ≡ t.crosses + (place.side + place.cross * p) → more.free ≡ t.free + one_if place.free → IsSmallTally (n + 1) more
small_more n p t more place small one low letters word crosses free =
    let word_le = factor_limit n t.word place.word small.word one.word in
    let a = small.letters in
    let b = one.old in
    let c : place.letter * p ≤ 3 * 99 = mul-le-mul one.letter low in
    let d = small.crosses in
    let e = one.side in
    let f : place.cross * p ≤ 9 * 99 = mul-le-mul one.cross low in
    let g = small.free in
    let h = one_or_none place.free in
    record { letters = omega arith; word = omega arith; crosses = omega arith; free = omega arith }

-- the sums and products of a stretch
pub record IsTally (rules : Rules) (places : ℕ → Place) (tiles : ℕ → Option Tile) (first len : ℕ) (t : Tally) : Type 0 where
  pub letters : t.letters ≡ total (letter_sum rules places tiles) first len
  pub word : t.word ≡ times (λ i. (places i).word) first len
  pub crosses : t.crosses ≡ total (cross_sum rules places tiles) first len
  pub free : t.free ≡ free_count places first len

-- ---- the stretch of a move, up to a place
pub record TallyAt (rules : Rules) (places : ℕ → Place) (tiles : ℕ → Option Tile) (first len at : ℕ) (t : Tally) : Type 0 where
  pub early : at ≤ first → t.free ≡ 0
  pub later : first ≤ at → (at ≤ first + len) × IsTally rules places tiles first (at - first) t

no_tally : (rules : Rules) (places : ℕ → Place) (tiles : ℕ → Option Tile) (first n : ℕ) (t : Tally) → n ≡ 0 → t.letters ≡ 0 → t.word ≡ 1 → t.crosses ≡ 0 → t.free ≡ 0 → IsTally rules places tiles first n t
unfolding total times
no_tally rules places tiles first n t none letters word crosses free =
    subst (λ k. IsTally rules places tiles first k t) (sym none) (record { letters = letters; word = word; crosses = crosses; free = free })

more_tally : (rules : Rules) (places : ℕ → Place) (tiles : ℕ → Option Tile) (first n at : ℕ) (t more : Tally) → at ≡ first + n → IsTally rules places tiles first n t
    → more.letters ≡ t.letters + ((places at).old + (places at).letter * points_at rules tiles at) → more.word ≡ t.word * (places at).word
    → more.crosses ≡ t.crosses + ((places at).side + (places at).cross * points_at rules tiles at) → more.free ≡ t.free + one_if (places at).free → IsTally rules places tiles first (suc n) more
unfolding total times
more_tally rules places tiles first n at t more is t_is letters word crosses free =
    record {
      letters = letters ∙ ap (λ m. m + letter_sum rules places tiles at) t_is.letters ∙ ap (λ k. total (letter_sum rules places tiles) first n + letter_sum rules places tiles k) is;
      word = word ∙ ap (λ m. m * (places at).word) t_is.word ∙ ap (λ k. times (λ i. (places i).word) first n * (places k).word) is;
      crosses = crosses ∙ ap (λ m. m + cross_sum rules places tiles at) t_is.crosses ∙ ap (λ k. total (cross_sum rules places tiles) first n + cross_sum rules places tiles k) is;
      free = free ∙ ap (λ m. m + one_if (places at).free) t_is.free ∙ ap (λ k. free_count places first n + one_if (places k).free) is;
    }

pub tally_start : (rules : Rules) (places : ℕ → Place) (tiles : ℕ → Option Tile) (first len : ℕ) (t : Tally) → t.letters ≡ 0 → t.word ≡ 1 → t.crosses ≡ 0 → t.free ≡ 0 → TallyAt rules places tiles first len 0 t
tally_start rules places tiles first len t letters word crosses free =
    record { early = λ le. free; later = λ le. (omega arith, no_tally rules places tiles first (0 - first) t (omega arith) letters word crosses free) }

-- a stretch has a free place
some_free : (places : ℕ → Place) (tiles : ℕ → Option Tile) (first len : ℕ) → LiesOn places tiles first len → 1 ≤ free_count places first len
unfolding total
some_free places tiles first len lies =
    let s = lies.some in
    let i = s.0 in
    let low = s.1 in
    let high = s.2 in
    let e : first + (i - first) ≡ i = omega arith in
    let part = total-inside (λ k. one_if (places k).free) first (i - first) 1 len (omega arith) in
    let zero_i : i + 0 ≡ i = omega arith in
    let at = ap (λ k. free_count places k 1) e in
    let here : one_if (places (i + 0)).free ≡ 1 = ap (λ k. one_if (places k).free) zero_i ∙ ap one_if s.3 in
    omega arith

-- a place without a tile
pub tally_gap : (rules : Rules) (places : ℕ → Place) (tiles : ℕ → Option Tile) (first len at : ℕ) (t none : Tally) → at < 15 → LiesOn places tiles first len → is_laid places tiles at ≡ false → t.free ≡ 0
    → none.letters ≡ 0 → none.word ≡ 1 → none.crosses ≡ 0 → none.free ≡ 0 → TallyAt rules places tiles first len at t → TallyAt rules places tiles first len (at + 1) none
tally_gap rules places tiles first len at t none below lies gap nothing letters word crosses free before =
    record {
      early = λ le. free;
      later = λ le.
          ⊎_elim
          (λ (next : first ≡ at + 1). (omega arith, no_tally rules places tiles first (at + 1 - first) none (omega arith) letters word crosses free))
          (λ (ne : first ≡ at + 1 → ⊥).
          let b = before.later (omega arith) in
          let upto = b.0 in
          ⊎_elim
          (λ (inside : at < first + len). absurd (both_ways (is_laid places tiles at) gap (lies.whole.filled at (omega arith) inside)))
          (λ (end : first + len ≤ at).
          let size : at - first ≡ len = omega arith in
          let count = b.1.free ∙ ap (free_count places first) size in
          let some = some_free places tiles first len lies in
          absurd (omega arith))
          (cases_lt at (first + len)))
          (cases_eq first (at + 1));
    }

-- a place before the stretch with a tile has an old one
old_before : (places : ℕ → Place) (tiles : ℕ → Option Tile) (first len at : ℕ) → at < 15 → at < first → LiesOn places tiles first len → is_laid places tiles at ≡ true → (places at).free ≡ false
old_before places tiles first len at below before lies laid = by (tiles at) refl
  where
    by : (o : Option Tile) → tiles at ≡ o → (places at).free ≡ false
    by None none =
        ⊎_elim
        (λ (free : (places at).free ≡ true). absurd (both_ways (is_laid places tiles at) (ap (λ (b : Bool). not b || is_some (tiles at)) free ∙ ap is_some none) laid))
        (λ (taken : (places at).free ≡ false). taken)
        (cases_Bool (places at).free)
    by (Some t) there = let within = lies.within at below (λ none. let both : None ≡ Some t = sym none ∙ there in cc) in absurd (omega (arith, within.0))

-- a place with a tile
pub tally_lay : (rules : Rules) (places : ℕ → Place) (tiles : ℕ → Option Tile) (first len at : ℕ) (t more : Tally) → at < 15 → LiesOn places tiles first len → is_laid places tiles at ≡ true
    → more.letters ≡ t.letters + ((places at).old + (places at).letter * points_at rules tiles at) → more.word ≡ t.word * (places at).word
    → more.crosses ≡ t.crosses + ((places at).side + (places at).cross * points_at rules tiles at) → more.free ≡ t.free + one_if (places at).free
    → TallyAt rules places tiles first len at t → TallyAt rules places tiles first len (at + 1) more
tally_lay rules places tiles first len at t more below lies laid letters word crosses free before =
    record {
      early = λ le.
          let none = before.early (omega arith) in
          let old = ap one_if (old_before places tiles first len at below (omega arith) lies laid) in
          omega arith;
      later = λ le.
          ⊎_elim
          (λ (next : first ≡ at + 1).
          let here : first - 1 ≡ at = omega arith in
          absurd (both_ways (is_laid places tiles at) (sym (ap (is_laid places tiles) here) ∙ lies.whole.before (omega arith)) laid))
          (λ (ne : first ≡ at + 1 → ⊥).
          let b = before.later (omega arith) in
          let upto = b.0 in
          ⊎_elim
          (λ (inside : at < first + len).
          let size : suc (at - first) ≡ at + 1 - first = omega arith in
          (omega arith, subst (λ k. IsTally rules places tiles first k more) size (more_tally rules places tiles first (at - first) at t more (omega arith) b.1 letters word crosses free)))
          (λ (end : first + len ≤ at).
          let here : first + len ≡ at = omega arith in
          absurd (both_ways (is_laid places tiles at) (sym (ap (is_laid places tiles) here) ∙ lies.whole.after (omega arith)) laid))
          (cases_lt at (first + len)))
          (cases_eq first (at + 1));
    }

-- the stretch ends if tiles were laid before a place without one
pub tally_stop : (rules : Rules) (places : ℕ → Place) (tiles : ℕ → Option Tile) (first len at : ℕ) (t : Tally) → LiesOn places tiles first len → is_laid places tiles at ≡ false → 0 < t.free
    → TallyAt rules places tiles first len at t → IsTally rules places tiles first len t
tally_stop rules places tiles first len at t lies gap some before =
    ⊎_elim
    (λ (early : at < first). let none = before.early (omega arith) in absurd (omega arith))
    (λ (late : first ≤ at).
    let b = before.later late in
    let upto = b.0 in
    ⊎_elim
    (λ (inside : at < first + len). absurd (both_ways (is_laid places tiles at) gap (lies.whole.filled at late inside)))
    (λ (end : first + len ≤ at). let size : at - first ≡ len = omega arith in subst (λ k. IsTally rules places tiles first k t) size b.1)
    (cases_lt at (first + len)))
    (cases_lt at first)

-- or with the line
pub tally_end : (rules : Rules) (places : ℕ → Place) (tiles : ℕ → Option Tile) (first len at : ℕ) (t : Tally) → LiesOn places tiles first len → at ≡ 15 → TallyAt rules places tiles first len at t
    → IsTally rules places tiles first len t
tally_end rules places tiles first len at t lies whole before =
    let inside = lies.whole.inside in
    let s = lies.some in
    let low = s.1 in
    let high = s.2 in
    let b = before.later (omega arith) in
    let upto = b.0 in
    let size : at - first ≡ len = omega arith in
    subst (λ k. IsTally rules places tiles first k t) size b.1

-- the score that it adds up to
pub tally_is : (rules : Rules) (places : ℕ → Place) (tiles : ℕ → Option Tile) (first len n : ℕ) (t : Tally) → IsTally rules places tiles first len t
    → n ≡ t.letters * t.word + t.crosses + (if nat_le 7 t.free then rules.bonus else 0) → n ≡ tally rules places tiles first len
tally_is rules places tiles first len n t is e =
    e
    ∙ ap (λ m. m * t.word + t.crosses + (if nat_le 7 t.free then rules.bonus else 0)) is.letters
    ∙ ap (λ m. total (letter_sum rules places tiles) first len * m + t.crosses + (if nat_le 7 t.free then rules.bonus else 0)) is.word
    ∙ ap (λ m. total (letter_sum rules places tiles) first len * times (λ i. (places i).word) first len + m + (if nat_le 7 t.free then rules.bonus else 0)) is.crosses
    ∙ ap (λ m. total (letter_sum rules places tiles) first len * times (λ i. (places i).word) first len + total (cross_sum rules places tiles) first len + (if nat_le 7 m then rules.bonus else 0)) is.free
