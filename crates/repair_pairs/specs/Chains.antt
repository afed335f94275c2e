-- Chains of changes that repair a record.
use Rattle.std.specs.Prelude.{◌≡◌, ℕ, ◌≤◌, List, [], ◌∷◌, length, Option, Some, None}
use Rattle.ref_tiles.specs.declared.rulebook.Rules.{Rules}
use Rattle.gcg_read.specs.declared.events.Event.{Event}
use Rattle.repair_single.specs.Repairs.{IsRepair}
use Rattle.repair_single.specs.declared.repair.Repair.{Repair}
use Rattle.repair_pairs.specs.Pairs.{ConcernsSheet, WrongOnSheet, IsStep}
use Rattle.repair_pairs.specs.declared.found.Head.{Head}
use Rattle.repair_pairs.specs.declared.chains.Chain.{Chain}

-- the first of some repairs, if there are any
abbrev pub IsFirst : (found : List Repair) → Option Repair → Type 0
IsFirst [] first = first ≡ None
IsFirst (repair ∷ rest) first = first ≡ Some repair

-- the last change of a chain is a repair that concerns only lines of the sheet, and leaves only numbers of the sheet wrong
pub record IsLast (rules : Rules) (list : List (List ℕ)) (written : List Event) (last : Repair) : Type 0 where
  pub makes : IsRepair rules list written [] None last
  pub lines : ConcernsSheet written last.listed.change
  pub numbers : WrongOnSheet last

-- each step is a change of the record that those before it make, and the last change is a repair of the record that all of them make
abbrev pub LeadsOn : Rules → (list : List (List ℕ)) → (written : List Event) → (steps : List Head) → (last : Repair) → Type 0
LeadsOn rules list written [] last = IsLast rules list written last
LeadsOn rules list written (step ∷ rest) last = IsStep rules list written step × LeadsOn rules list step.made rest last

-- A chain of changes that repairs a record: one step or more, at most `most`, and a last change.
pub record IsChain (rules : Rules) (list : List (List ℕ)) (written : List Event) (most : ℕ) (c : Chain) : Type 0 where
  pub some : 1 ≤ length c.steps.items
  pub few : length c.steps.items ≤ most
  pub leads : LeadsOn rules list written c.steps.items c.last
