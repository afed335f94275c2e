-- Pairs as they are found, one head after another.
use Rattle.std.specs.Prelude.{◌≡◌, ◌⊎◌, ℕ, ◌≤◌, List, [], ◌∷◌, ◌++◌, length, All, AllPairs, Any, Contains}
use Rattle.ref_tiles.specs.declared.rulebook.Rules.{Rules}
use Rattle.gcg_read.specs.declared.events.Event.{Event}
use Rattle.repair_single.specs.Repairs.{SameRecord}
use Rattle.repair_single.specs.declared.repair.Repair.{Repair}
use Rattle.repair_pairs.specs.Pairs.{ConcernsSheet, WrongOnSheet, CostsLess, MakesOther, cost_with, IsPair}
use Rattle.repair_pairs.specs.declared.found.Pair.{Pair}
use Rattle.repair_pairs.specs.declared.found.Pairs.{Pairs}

-- a pair of the head with a number, by a repair of the record that it makes
pub record IsPairWith (singles : List Repair) (made : List Event) (head weight : ℕ) (p : Pair) : Type 0 where
  pub of_head : p.head ≡ head
  pub lines : ConcernsSheet made p.then.listed.change
  pub numbers : WrongOnSheet p.then
  pub cheaper : CostsLess singles p.cost
  pub other : MakesOther singles p.then
  pub costs : p.cost ≡ cost_with weight p.then

-- the pair by this repair is added after the others
pub record PutsPair (singles : List Repair) (made : List Event) (head weight : ℕ) (then : Repair) (old new : List Pair) : Type 0 where
  pub pair : Pair
  pub added : new ≡ old ++ pair ∷ []
  pub by : pair.then ≡ then
  pub is : IsPairWith singles made head weight pair

-- it is added, or nothing is changed
abbrev pub AddsPair : (singles : List Repair) → (made : List Event) → (head weight : ℕ) → (then : Repair) → (old new : List Pair) → Type 0
AddsPair singles made head weight then old new = PutsPair singles made head weight then old new ⊎ (new ≡ old)

-- pairs by some of these repairs are added after the others
pub record AddsPairs (singles : List Repair) (made : List Event) (head weight : ℕ) (found : List Repair) (old new : List Pair) : Type 0 where
  pub more : List Pair
  pub added : new ≡ old ++ more
  pub each : All (λ (p : Pair). Contains found p.then × IsPairWith singles made head weight p) more

abbrev pub ArePairsSoFar : Rules → (list : List (List ℕ)) → (written : List Event) → (singles : List Repair) → Pairs → Type 0
ArePairsSoFar rules list written singles pairs = All (IsPair rules list written singles pairs.heads.items) pairs.reported.items

abbrev pub IsCheaper : Pair → Pair → Type 0
IsCheaper a b = a.cost ≤ b.cost

-- one of the pairs makes this record
abbrev pub IsMadeBy : (reported : List Pair) → (right : List Event) → Type 0
IsMadeBy reported right = Any (λ (p : Pair). SameRecord p.then.right right) reported

-- at most `most` of these pairs, in the order of their costs, and each record once
pub record AreFirstOf (found : List Pair) (most : ℕ) (reported : List Pair) : Type 0 where
  pub each : All (Contains found) reported
  pub few : length reported ≤ most
  pub ordered : AllPairs IsCheaper reported
  pub once : AllPairs (λ (a b : Pair). SameRecord a.then.right b.then.right → ⊥) reported

-- the same for the pairs of these heads
pub record AreSorted (pairs : Pairs) (most : ℕ) (first : Pairs) : Type 0 where
  pub heads : first.heads.items ≡ pairs.heads.items
  pub reported : AreFirstOf pairs.reported.items most first.reported.items
