-- Laws: which records are made from two sheets.
use Rattle.std.specs.Prelude.{◌≡◌, ◌⊎◌, ℕ, List, length, All, Contains}
use Rattle.gcg_read.specs.declared.events.Event.{Event}
use Rattle.gcg_read.specs.declared.events.Seat.{Seat}
use Rattle.compare_alignments.specs.declared.merging.NumbersOf.TheVariants as numbers
use Rattle.compare_alignments.specs.Alignments.{own_pairs}
use Rattle.compare_alignments.specs.declared.pairs.Pair.{Pair}
use Rattle.compare_alignments.specs.Merging.{with_rack, merged}

-- From a sheet and itself each choice makes that sheet.
abbrev pub IsItself : Type 0
IsItself = (owner : Seat) (choice : ℕ) (events : List Event) → merged owner numbers.Taken choice events events (own_pairs (length events)) ≡ events

-- the rack of an event is that of the other sheet, on a line of the same player
pub record IsRackIn (events : List Event) (e : Event) : Type 0 where
  pub line : Event
  pub there : Contains events line
  pub player : line.player ≡ e.player
  pub rack : e.rack ≡ line.rack

-- an event of a sheet, with the rack of its own line or of a line of the other sheet
pub record IsLineOf (events others : List Event) (e : Event) : Type 0 where
  pub line : Event
  pub there : Contains events line
  pub same : e ≡ with_rack line e.rack
  pub rack : (e.rack ≡ line.rack) ⊎ IsRackIn others e

-- an event of the first sheet or of the second
abbrev pub IsOfSheets : (first second : List Event) → Event → Type 0
IsOfSheets first second e = IsLineOf first second e ⊎ IsLineOf second first e

-- Each event of a merged record is an event of the first sheet or of the second, whatever the choice is. Its rack is that of its
-- line, or that of a line of the other sheet by the same player.
abbrev pub AreOfSheets : Type 0
AreOfSheets =
    (owner : Seat) (choice : ℕ) (first second : List Event) (pairs : List Pair) → All (IsOfSheets first second) (merged owner numbers.Taken choice first second pairs)
