-- Which changes of a record are repairs, and which are given.
use Rattle.std.specs.Prelude.{◌≡◌, ◌⊎◌, ℕ, ◌≤◌, true, false, List, length, All, AllPairs, Any, Contains, slice_get, Option, Some}
use Rattle.ref_tiles.specs.declared.rulebook.Rules.{Rules}
use Rattle.gcg_read.specs.declared.events.Event.{Event}
use Rattle.gcg_read.specs.declared.events.EventKind.{EventKind}
use Rattle.gcg_read.specs.declared.events.EventKind.TheVariants as kind
use Rattle.gcg_read.specs.Alike.{IsPlayOf}
use Rattle.game_deal.specs.Verdicts.{IsGame, IsUnsettled}
use Rattle.repair_changes.specs.Applied.{applied}
use Rattle.repair_changes.specs.declared.slips.Change.{Change}
use Rattle.repair_single.specs.Listing.{changes_with}
use Rattle.repair_single.specs.Costs.{Rank, rank_at, rank_of, is_ahead, cost_of}
use Rattle.repair_single.specs.Remaining.{Weighing, AreFewer, Remain, count_by, wrong_with}
use Rattle.repair_single.specs.Trying.{IsWritable}
use Rattle.repair_single.specs.declared.listed.Listed.{Listed}
use Rattle.repair_single.specs.declared.repair.Repair.{Repair}

-- one of the single changes of a record, or of the plays that were added: it has this number among those at its place, which is that of
-- an event or after the last
pub record IsListed (rules : Rules) (written : List Event) (plays : List Change) (listed : Listed) : Type 0 where
  pub within : listed.change.place ≤ length written
  pub there : slice_get (changes_with rules written plays listed.change.place) listed.index ≡ Some listed.change

-- A repair is a single change of a record after which its correction is a game: the rules allow each event with its right numbers, and
-- some deal yields every rack. If the record itself is a game once its numbers are corrected, fewer numbers that count, and fewer words, stay wrong.
pub record MakesGame (weigh : Weighing) (rules : Rules) (list : List (List ℕ)) (written : List Event) (plays : List Change) (below : Option ℕ) (listed : Listed) (right : List Event) : Type 0 where
  pub single : IsListed rules written plays listed
  pub correction : IsWritable rules list (applied listed.change written) right
  pub game : IsGame rules list right
  pub fewer : AreFewer below (count_by weigh rules list listed.change written right)

-- a repair, with the record that it makes and what stays wrong
pub record IsRepairBy (weigh : Weighing) (rules : Rules) (list : List (List ℕ)) (written : List Event) (plays : List Change) (below : Option ℕ) (r : Repair) : Type 0 where
  pub makes : MakesGame weigh rules list written plays below r.listed r.right
  pub remain : Remain weigh rules list r.listed.change written r.right r.remains

-- the same happened
abbrev pub SameKind : EventKind → EventKind → Type 0
SameKind what (kind.Play square way text) = IsPlayOf what square way text
SameKind what other = what ≡ other

-- the same event, whatever its line, and however the tiles that were on the board are written in its text
pub record SameEvent (e other : Event) : Type 0 where
  pub player : e.player ≡ other.player
  pub rack : e.rack ≡ other.rack
  pub score : e.score ≡ other.score
  pub total : e.total ≡ other.total
  pub kind : SameKind e.kind other.kind

-- The same record: the same events with the same numbers, whichever lines they are on.
pub record SameRecord (events others : List Event) : Type 0 where
  pub as_many : length events ≡ length others
  pub each : (place : ℕ) (e other : Event) → slice_get events place ≡ Some e → slice_get others place ≡ Some other → SameEvent e other

-- one of the repairs makes this record
abbrev pub IsAmong : (reported : List Repair) → (right : List Event) → Type 0
IsAmong reported right = Any (λ (r : Repair). SameRecord r.right right) reported

-- A change for which it is not known whether it is a repair: with it the record has a correction, but neither a deal that yields
-- every rack nor a proof that there is none was found.
pub record RemainsOpen (rules : Rules) (list : List (List ℕ)) (written : List Event) (plays : List Change) (listed : Listed) : Type 0 where
  pub single : IsListed rules written plays listed
  pub right : List Event
  pub correction : IsWritable rules list (applied listed.change written) right
  pub open_deal : IsUnsettled rules list right

-- a repair that makes this record is given, and it is not behind this rank
pub record IsReportedAt (reported : List Repair) (right : List Event) (by : Rank) : Type 0 where
  pub repair : Repair
  pub among : Contains reported repair
  pub same : SameRecord repair.right right
  pub first : is_ahead by (rank_of repair) ≡ false

-- `most` repairs are given, each ahead of this rank
pub record AreAhead (most : ℕ) (reported : List Repair) (by : Rank) : Type 0 where
  pub many : length reported ≡ most
  pub each : All (λ (r : Repair). is_ahead (rank_of r) by ≡ true) reported

-- The first `most` repairs of a record at the places from one on, in their order. Each record that they make is made once, by the change
-- that costs least, and by the first of several such changes. A repair at such a place is left out only for such a one, or if `most` others
-- are ahead, or if its deal is left open. Nothing is said of the changes at the places before.
pub record AreFirstBy (weigh : Weighing) (rules : Rules) (list : List (List ℕ)) (written : List Event) (plays : List Change) (below : Option ℕ) (from most : ℕ) (reported : List Repair) (remaining : List Listed) : Type 0 where
  pub repairs : All (IsRepairBy weigh rules list written plays below) reported
  pub few : length reported ≤ most
  pub ordered : AllPairs (λ (a b : Repair). is_ahead (rank_of a) (rank_of b) ≡ true) reported
  pub once : AllPairs (λ (a b : Repair). SameRecord a.right b.right → ⊥) reported
  pub unsettled : All (RemainsOpen rules list written plays) remaining
  pub others : (listed : Listed) (right : List Event) → from ≤ listed.change.place → MakesGame weigh rules list written plays below listed right
      → Contains remaining listed ⊎ IsReportedAt reported right (rank_at (cost_of weigh rules list listed.change written right) listed)
      ⊎ AreAhead most reported (rank_at (cost_of weigh rules list listed.change written right) listed)

-- On a record all numbers count.
abbrev pub IsRepair : Rules → (list : List (List ℕ)) → (written : List Event) → (plays : List Change) → (below : Option ℕ) → Repair → Type 0
IsRepair rules list written plays below r = IsRepairBy wrong_with rules list written plays below r

abbrev pub AreFirstRepairs : Rules → (list : List (List ℕ)) → (written : List Event) → (plays : List Change) → (below : Option ℕ) → (from most : ℕ) → (reported : List Repair) → (remaining : List Listed) → Type 0
AreFirstRepairs rules list written plays below from most reported remaining = AreFirstBy wrong_with rules list written plays below from most reported remaining
