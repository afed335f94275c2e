-- The entry of the record of a text, with the walk over its events.
use Rattle.std.specs.Prelude.{◌≡◌, ℕ, List, Result, Ok, Err, Option, Some, None}
use Rattle.ref_tiles.specs.declared.rulebook.Rules.{Rules}
use Rattle.gcg_read.specs.declared.faults.ReadFault.{ReadFault}
use Rattle.gcg_read.specs.Records.{record_of}
use Rattle.game_walk.specs.Walks.{IsWalkOf}
use Rattle.game_walk.specs.declared.walking.Walk.{Walk}
use Rattle.game_case.specs.declared.entries.Entry.{Entry}
use Rattle.game_case.specs.declared.entries.Walked.{Walked}
use Rattle.game_case.specs.Archiving.{IsEntry}

-- for the record that a text means, or its first fault
abbrev pub IsWalkedFrom : Rules → (list : List (List ℕ)) → (text : List ℕ) → Result Walked ReadFault → Type 0
IsWalkedFrom rules list text (Ok w) = (record_of text ≡ Ok w.entry.record) × IsEntry rules list w.entry × IsWalkOf rules list w.entry.record.events w.walk
IsWalkedFrom rules list text (Err fault) = record_of text ≡ Err fault

-- only the entry, or the fault
abbrev pub read_of : Result Walked ReadFault → Result Entry ReadFault
read_of (Ok w) = Ok w.entry
read_of (Err fault) = Err fault

-- only the walk, if there is one
abbrev pub walk_of : Result Walked ReadFault → Option Walk
walk_of (Ok w) = Some w.walk
walk_of (Err fault) = None
