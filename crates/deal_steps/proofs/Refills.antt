-- Racks that are filled up again: what was drawn, by what left and what is new.
use Rattle.std.proofs.Common.{◌≡◌, ℕ, ◌+◌, ◌<◌, ◌≤◌, List, length, get_or, sum, sym, ap, ◌∙◌, inl, inr, arith}
use Rattle.std.proofs.lemmas.Bool.{cases_lt}
use Rattle.std.proofs.lemmas.List.{get_or_past}
use Rattle.deal_steps.specs.Piles.{joined, without}
use Rattle.deal_steps.specs.Fitting.{IsRefilled}
use Rattle.deal_steps.proofs.PileLaws.{get-joined, get-without, length-joined, length-without, same_numbers, sum-joined, sum-without}

-- for each kind, what is gone from the rack left it, and what is new was in the bag
abbrev pub ComeFromBag : (bag off rack new : List ℕ) → Type 0
ComeFromBag bag off rack new =
    (k : ℕ) → k < 27 → (get_or rack k 0 ≤ get_or new k 0 + get_or off k 0) × (get_or new k 0 + get_or off k 0 ≤ get_or rack k 0 + get_or bag k 0)

-- by kinds
pub refilled_kinds : (bag : List ℕ) (number : ℕ) (off rack new : List ℕ) → IsRefilled bag number off rack new → ComeFromBag bag off rack new
refilled_kinds bag number off rack new is k below =
    let all = is.makes k below in
    let there = is.from_bag k in
    (omega (arith, all, there), omega (arith, all, there))

-- by numbers
pub refilled_number : (bag : List ℕ) (number : ℕ) (off rack new : List ℕ) → length off ≡ 27 → length rack ≡ 27 → length new ≡ 27 → IsRefilled bag number off rack new
    → sum new + sum off ≡ sum rack + number
refilled_number bag number off rack new off_long rack_long new_long is =
    let same = ap sum (same_numbers (joined new off) (joined rack is.drawn) (length-joined new off) (length-joined rack is.drawn)
    (λ k below. get-joined new off k below ∙ is.makes k below ∙ sym (get-joined rack is.drawn k below))) in
    let after = sum-joined new off new_long off_long in
    let before = sum-joined rack is.drawn rack_long is.kinds in
    let asked = is.as_asked in
    omega (arith, same, after, before, asked)

drawn_at : (off rack new : List ℕ) (k : ℕ) → k < 27 → get_or rack k 0 ≤ get_or new k 0 + get_or off k 0
    → get_or new k 0 + get_or off k 0 ≡ get_or rack k 0 + get_or (without (joined new off) rack) k 0
drawn_at off rack new k below gone =
    let both = get-joined new off k below in
    let drawn = get-without (joined new off) rack k below in
    omega (arith, both, drawn, gone)

drawn_there : (bag off rack new : List ℕ) → ComeFromBag bag off rack new → (k : ℕ) → get_or (without (joined new off) rack) k 0 ≤ get_or bag k 0
drawn_there bag off rack new comes k = elim (cases_lt k 27) [
  | inl below ↦
      let parts = comes k below in
      let same = drawn_at off rack new k below parts.0 in
      let most = parts.1 in
      omega (arith, same, most)
  | inr past ↦
      let long = length-without (joined new off) rack in
      let none = get_or_past (without (joined new off) rack) k 0 (omega (arith, long, past)) in
      omega (arith, none)
]

-- what was drawn is what is new plus what left, minus what was on the rack
pub refilled_from : (bag : List ℕ) (number : ℕ) (off rack new : List ℕ) → length off ≡ 27 → length rack ≡ 27 → length new ≡ 27
    → sum new + sum off ≡ sum rack + number → ComeFromBag bag off rack new → IsRefilled bag number off rack new
refilled_from bag number off rack new off_long rack_long new_long sums comes = record {
  drawn = without (joined new off) rack;
  kinds = length-without (joined new off) rack;
  from_bag = drawn_there bag off rack new comes;
  as_asked =
      let both = sum-joined new off new_long off_long in
      let drawn = sum-without (joined new off) rack (length-joined new off) rack_long
      (λ k below. let there = (comes k below).0 in let all = get-joined new off k below in omega (arith, there, all)) in
      omega (arith, sums, both, drawn);
  makes = λ k below. drawn_at off rack new k below (comes k below).0;
}
