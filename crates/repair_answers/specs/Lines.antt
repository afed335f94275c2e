-- Repairs, and pairs of changes, in lines.
use Rattle.std.specs.Prelude.{◌≡◌, ℕ, ◌+◌, ◌-◌, not, Bool, true, false, List, [], ◌∷◌, ◌++◌, map, filter, take, length, All, slice_get, nat_lt, Option, Some, None, if◌then◌else◌}
use Rattle.std.specs.List.{list_all, count_by, range_with_len}
use Rattle.repair_single.specs.declared.repair.Repair.{Repair}
use Rattle.repair_answers.specs.Alike.{cost_in}
use Rattle.repair_answers.specs.Choices.{alone_cost}
use Rattle.repair_answers.specs.declared.numbers_alone.NumbersAlone.{NumbersAlone}
use Rattle.repair_answers.specs.declared.evidence.Reported.{Reported}

abbrev pub are_like : {T : Type 0} → (like : T → T → Bool) → Option T → Option T → Bool
are_like like (Some one) (Some two) = like one two
are_like like one two = false

-- whether the items at two numbers are alike
abbrev pub like_at : {T : Type 0} → (like : T → T → Bool) → List T → (first other : ℕ) → Bool
like_at like items first other = are_like like (slice_get items first) (slice_get items other)

-- the item at a number is the first of its line: it is like none before it
abbrev pub is_first : {T : Type 0} → (like : T → T → Bool) → List T → (index : ℕ) → Bool
is_first like items index = list_all (λ before. not (like_at like items before index)) (range_with_len 0 index)

-- the number of another one, if that is like the one at a number
abbrev pub those_like : {T : Type 0} → (like : T → T → Bool) → List T → (first other : ℕ) → List ℕ
those_like like items first other = if like_at like items first other then (other ∷ []) else []

-- later ones that are like it
abbrev pub others_of : {T : Type 0} → (like : T → T → Bool) → List T → (first : ℕ) → List ℕ
others_of like items first = filter (like_at like items first) (range_with_len (first + 1) (length items - (first + 1)))

-- a line has the items that are like its first
abbrev pub IsLine : {T : Type 0} → (like : T → T → Bool) → List T → Reported → Type 0
IsLine like items line = line.others.items ≡ others_of like items line.first

-- the numbers of those that are the first of a line
abbrev pub first_ones : {T : Type 0} → (like : T → T → Bool) → List T → List ℕ
first_ones like items = filter (is_first like items) (range_with_len 0 (length items))

-- the line of the item at a number is added, if the item is the first of a line
pub record AddsOne {T : Type 0} (like : T → T → Bool) (items : List T) (index : ℕ) (old new : List Reported) : Type 0 where
  pub line : Reported
  pub added : new ≡ old ++ line ∷ []
  pub first : line.first ≡ index
  pub is : IsLine like items line

abbrev pub AddsBy : {T : Type 0} → Bool → (like : T → T → Bool) → List T → (index : ℕ) → (old new : List Reported) → Type 0
AddsBy true like items index old new = AddsOne like items index old new
AddsBy false like items index old new = new ≡ old

abbrev pub AddsLine : {T : Type 0} → (like : T → T → Bool) → List T → (index : ℕ) → (old new : List Reported) → Type 0
AddsLine like items index old new = AddsBy (is_first like items index) like items index old new

-- The first `most` lines of some items, in the order of their first ones: those that are alike share a line.
pub record AreLines {T : Type 0} (like : T → T → Bool) (items : List T) (most : ℕ) (lines : List Reported) : Type 0 where
  pub firsts : map (λ (line : Reported). line.first) lines ≡ take most (first_ones like items)
  pub each : All (IsLine like items) lines

-- whether the first repair of a line costs less than correcting only the numbers
abbrev pub is_below : NumbersAlone → Option Repair → Bool
is_below alone None = false
is_below alone (Some repair) = nat_lt (cost_in repair) (alone_cost alone)

abbrev pub is_before : NumbersAlone → List Repair → Reported → Bool
is_before alone repairs line = is_below alone (slice_get repairs line.first)

-- How many of some lines cost less than correcting only the numbers; none if more than numbers is wrong.
abbrev pub before_numbers : Option NumbersAlone → List Repair → List Reported → ℕ
before_numbers None repairs lines = 0
before_numbers (Some alone) repairs lines = count_by (is_before alone repairs) lines
