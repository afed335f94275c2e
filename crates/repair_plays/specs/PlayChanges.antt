-- Changes of plays: a play that is missing, and a play that is a different one altogether.
use Rattle.std.specs.Prelude.{◌≤◌, ⊤, List, length, All}
use Rattle.gcg_read.specs.declared.events.Event.{Event}
use Rattle.game_walk.specs.declared.walking.Walk.{Walk}
use Rattle.repair_changes.specs.declared.slips.Change.{Change}
use Rattle.repair_changes.specs.declared.slips.MissingLine.{MissingLine}
use Rattle.repair_changes.specs.declared.slips.MissingLine.TheVariants as line
use Rattle.repair_changes.specs.declared.slips.Slip.{Slip}
use Rattle.repair_changes.specs.declared.slips.Slip.TheVariants as slip

-- the line that is missing is a play
abbrev pub IsMissingPlay : MissingLine → Type 0
IsMissingPlay (line.Play player play) = ⊤
IsMissingPlay other = ⊥

-- a play is missing, or is a different one altogether
abbrev pub IsOfPlay : Slip → Type 0
IsOfPlay (slip.Missing line) = IsMissingPlay line
IsOfPlay (slip.Replayed play) = ⊤
IsOfPlay other = ⊥

-- A change of a play at a place of a record: up to the event at which its correction stops, or after the last event.
pub record IsPlayChange (written : List Event) (walk : Walk) (change : Change) : Type 0 where
  pub within : change.place ≤ length written
  pub tried : change.place ≤ length walk.rows.items
  pub play : IsOfPlay change.slip

abbrev pub ArePlayChanges : (written : List Event) → Walk → List Change → Type 0
ArePlayChanges written walk plays = All (IsPlayChange written walk) plays
