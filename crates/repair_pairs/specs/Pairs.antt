-- Pairs of changes that repair a record.
use Rattle.std.specs.Prelude.{◌≡◌, ℕ, ◌+◌, ◌<◌, ◌≤◌, ◌==◌, not, Bool, true, List, [], length, take, drop, All, AllPairs, slice_get, Some, None}
use Rattle.ref_tiles.specs.declared.rulebook.Rules.{Rules}
use Rattle.gcg_read.specs.declared.events.Event.{Event}
use Rattle.game_corrections.specs.declared.wrong_numbers.WrongNumber.{WrongNumber}
use Rattle.game_corrections.specs.declared.wrong_numbers.WrongNumber.TheVariants as number
use Rattle.repair_changes.specs.declared.slips.Change.{Change}
use Rattle.repair_changes.specs.Applied.{wrong_events}
use Rattle.repair_changes.specs.Weights.{weight_of}
use Rattle.repair_single.specs.Costs.{costs, rank_of}
use Rattle.repair_single.specs.Repairs.{IsListed, IsRepair, SameRecord, IsAmong}
use Rattle.repair_single.specs.declared.repair.Repair.{Repair}
use Rattle.repair_pairs.specs.Made.{IsMade}
use Rattle.repair_pairs.specs.declared.found.Head.{Head}
use Rattle.repair_pairs.specs.declared.found.Pair.{Pair}
use Rattle.repair_pairs.specs.declared.found.Pairs.{Pairs}

-- a first change is one of the record's single changes, together with the record that it makes
pub record IsHead (rules : Rules) (list : List (List ℕ)) (written : List Event) (head : Head) : Type 0 where
  pub single : IsListed rules written [] head.first
  pub made : IsMade rules list written head.first.change head.made

-- each line that a change concerns is on the sheet: a line that a first change adds has the number 0
abbrev pub ConcernsSheet : (made : List Event) → Change → Type 0
ConcernsSheet made change = All (λ (e : Event). e.line ≡ 0 → ⊥) (take (wrong_events change.slip) (drop change.place made))

-- a step is such a change whose lines are on the sheet
pub record IsStep (rules : Rules) (list : List (List ℕ)) (written : List Event) (step : Head) : Type 0 where
  pub head : IsHead rules list written step
  pub lines : ConcernsSheet written step.first.change

-- whether a wrong number is on the sheet
abbrev pub is_on_sheet : WrongNumber → Bool
is_on_sheet (number.Score line written right) = not (line == 0)
is_on_sheet (number.Sum line written sum right) = not (line == 0)
is_on_sheet (number.Total player written right) = true

abbrev pub WrongOnSheet : Repair → Type 0
WrongOnSheet then = All (λ (w : WrongNumber). is_on_sheet w ≡ true) then.remains.wrong.items

-- each of some repairs costs more than `cost`
abbrev pub CostsLess : (singles : List Repair) → (cost : ℕ) → Type 0
CostsLess singles cost = All (λ (single : Repair). cost < (rank_of single).cost) singles

-- a repair makes a record that none of some others makes
abbrev pub MakesOther : (singles : List Repair) → Repair → Type 0
MakesOther singles then = IsAmong singles then.right → ⊥

-- Two slips cost their two weights, and what stays wrong with both counts as it does with a single slip.
abbrev pub cost_with : (weight : ℕ) → (then : Repair) → ℕ
cost_with weight then = weight + costs (length then.remains.wrong.items) (length then.remains.unlisted.items) then.listed.change.slip

-- A pair of changes: one of the record's single changes, and a repair of the record that it makes. The second concerns lines of the sheet, and so does each
-- number that stays wrong. Together they cost less than each single repair, and they make a record that no single repair makes.
pub record IsPair (rules : Rules) (list : List (List ℕ)) (written : List Event) (singles : List Repair) (heads : List Head) (p : Pair) : Type 0 where
  pub head : Head
  pub there : slice_get heads p.head ≡ Some head
  pub first : IsHead rules list written head
  pub second : IsRepair rules list head.made [] None p.then
  pub lines : ConcernsSheet head.made p.then.listed.change
  pub numbers : WrongOnSheet p.then
  pub cheaper : CostsLess singles p.cost
  pub other : MakesOther singles p.then
  pub costs : p.cost ≡ cost_with (weight_of head.first.change.slip) p.then

-- At most `most` pairs that repair a record, in the order of their costs. Each record that they make is made once. Nothing says that they are all pairs,
-- or the first of all.
pub record ArePairs (rules : Rules) (list : List (List ℕ)) (written : List Event) (singles : List Repair) (most : ℕ) (pairs : Pairs) : Type 0 where
  pub each : All (IsPair rules list written singles pairs.heads.items) pairs.reported.items
  pub few : length pairs.reported.items ≤ most
  pub ordered : AllPairs (λ (a b : Pair). a.cost ≤ b.cost) pairs.reported.items
  pub once : AllPairs (λ (a b : Pair). SameRecord a.then.right b.then.right → ⊥) pairs.reported.items
