-- What becomes of a candidate: it is given as a repair, it is left open, or neither.
use Rattle.std.specs.Prelude.{◌≡◌, ◌⊎◌, ℕ, List, [], ◌∷◌, ◌++◌}
use Rattle.ref_tiles.specs.declared.rulebook.Rules.{Rules}
use Rattle.gcg_read.specs.declared.events.Event.{Event}
use Rattle.game_deal.specs.Verdicts.{IsGame, IsUnsettled}
use Rattle.repair_changes.specs.Applied.{applied}
use Rattle.repair_single.specs.Remaining.{Weighing, Remain}
use Rattle.repair_single.specs.Repairs.{IsAmong}
use Rattle.repair_single.specs.Trying.{IsWritable}
use Rattle.repair_single.specs.declared.candidate.Candidate.{Candidate}
use Rattle.repair_single.specs.declared.found.Found.{Found}
use Rattle.repair_single.specs.declared.listed.Listed.{Listed}
use Rattle.repair_single.specs.declared.repair.Repair.{Repair}

-- the right events are a game that no repair makes so far, and the repair that makes them is added
pub record AddsRepair (weigh : Weighing) (rules : Rules) (list : List (List ℕ)) (written : List Event) (listed : Listed) (right : List Event) (old new : Found) : Type 0 where
  pub repair : Repair
  pub added : new.reported.items ≡ old.reported.items ++ repair ∷ []
  pub same_remaining : new.remaining.items ≡ old.remaining.items
  pub by : repair.listed ≡ listed
  pub makes : repair.right ≡ right
  pub remain : Remain weigh rules list listed.change written right repair.remains
  pub game : IsGame rules list right
  pub fresh : IsAmong old.reported.items right → ⊥

-- it is not known whether the right events are a game
pub record AddsOpen (rules : Rules) (list : List (List ℕ)) (listed : Listed) (right : List Event) (old new : Found) : Type 0 where
  pub added : new.remaining.items ≡ old.remaining.items ++ listed ∷ []
  pub same_reported : new.reported.items ≡ old.reported.items
  pub unsettled : IsUnsettled rules list right

-- a repair makes the same record, or the right events are not a game
pub record AddsNone (rules : Rules) (list : List (List ℕ)) (right : List Event) (old new : Found) : Type 0 where
  pub same_reported : new.reported.items ≡ old.reported.items
  pub same_remaining : new.remaining.items ≡ old.remaining.items
  pub why : IsAmong old.reported.items right ⊎ (IsGame rules list right → ⊥)

abbrev pub IsTriedWith : (weigh : Weighing) → Rules → (list : List (List ℕ)) → (written : List Event) → Listed → (right : List Event) → (old new : Found) → Type 0
IsTriedWith weigh rules list written listed right old new =
    AddsRepair weigh rules list written listed right old new ⊎ AddsOpen rules list listed right old new ⊎ AddsNone rules list right old new

-- the same with the correction that the record has
abbrev pub IsTried : (weigh : Weighing) → Rules → (list : List (List ℕ)) → (written : List Event) → Candidate → (old new : Found) → Type 0
IsTried weigh rules list written c old new =
    (right : List Event) → IsWritable rules list (applied c.listed.change written) right → IsTriedWith weigh rules list written c.listed right old new
