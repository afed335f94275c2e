-- What a text that was made of a sheet reads as, and which texts are kept.
use Rattle.std.specs.Prelude.{◌≡◌, ◌⊎◌, ℕ, Bool, true, false, List, length, slice_get, Some, Ok}
use Rattle.gcg_read.specs.declared.events.Event.{Event}
use Rattle.gcg_read.specs.declared.players.Players.{Players}
use Rattle.gcg_read.specs.declared.records.Record.{Record}
use Rattle.gcg_read.specs.Alike.{SayTheSame}
use Rattle.gcg_read.specs.Players.{player_of}
use Rattle.gcg_read.specs.Records.{record_of}
use Rattle.repair_sheets.specs.declared.slips.SheetSlip.{SheetSlip}
use Rattle.repair_sheets.specs.declared.slips.SheetSlip.TheVariants as slip
use Rattle.repair_sheets.specs.declared.slips.RunningSlip.{RunningSlip}
use Rattle.repair_sheets.specs.declared.slips.RunningSlip.TheVariants as running
use Rattle.repair_rewrites.specs.Names.{AreNamed}

-- ---- two events

-- they say the same of the player with the same nickname, whichever seat that player has
pub record SameByName (players others : Players) (e other : Event) : Type 0 where
  pub line : SayTheSame e other
  pub nick : (player_of players e.player).nick ≡ (player_of others other.player).nick

-- they say the same of the player in the same seat
pub record SameBySeat (e other : Event) : Type 0 where
  pub line : SayTheSame e other
  pub seat : e.player ≡ other.player

-- as many events, and each the same as the one at its place
pub record AreTheSame (Same : Event → Event → Type 0) (events others : List Event) : Type 0 where
  pub as_many : length events ≡ length others
  pub each : (place : ℕ) (e other : Event) → slice_get events place ≡ Some e → slice_get others place ≡ Some other → Same e other

-- ---- a text

-- The text reads as a record with these events of players with these nicknames. Which of the two is the first one may change: if a line is left out that
-- alone named a player, or the first line of a sheet whose pragmas name nobody, the other player may be read as the first.
pub record ReadsByName (players : Players) (right : List Event) (text : List ℕ) : Type 0 where
  pub read : Record
  pub is : record_of text ≡ Ok read
  pub same : AreTheSame (SameByName players read.players) right read.events

-- it reads as a record with these events of the players in the same seats
pub record ReadsBySeat (right : List Event) (text : List ℕ) : Type 0 where
  pub read : Record
  pub is : record_of text ≡ Ok read
  pub same : AreTheSame SameBySeat right read.events

-- ---- the text that is kept

-- the text that was made is kept: each player who has a line has a nickname, and the text reads as these events
pub record IsKept (players : Players) (right : List Event) (made kept : List ℕ) : Type 0 where
  pub is : kept ≡ made
  pub named : AreNamed players right
  pub reads : ReadsByName players right kept

-- no text is kept, and only if one of the two does not hold
pub record IsNotKept (players : Players) (right : List Event) (made : List ℕ) : Type 0 where
  pub none : AreNamed players right → ReadsByName players right made → ⊥

-- the same by seats, for a text in which no line is written anew
pub record IsKeptBySeat (right : List Event) (made kept : List ℕ) : Type 0 where
  pub is : kept ≡ made
  pub reads : ReadsBySeat right kept

pub record IsNotKeptBySeat (right : List Event) (made : List ℕ) : Type 0 where
  pub none : ReadsBySeat right made → ⊥

-- ---- without a slip of the whole sheet

-- Whether a slip says of each line what should be there. If blanks are written as capitals it does not: of two equal letters in a word either may be the
-- blank.
abbrev pub says_each_of : RunningSlip → Bool
says_each_of running.CapitalBlanks = false
says_each_of other = true

abbrev pub says_each_line : SheetSlip → Bool
says_each_line (slip.Running place s) = says_each_of s
says_each_line other = true

-- a slip that runs through the sheet has its lines written anew, with the names; one that is on a line of its own has not
abbrev pub IsKeptWithout : SheetSlip → Players → (right : List Event) → (made kept : List ℕ) → Type 0
IsKeptWithout (slip.Running place s) players right made kept = (says_each_of s ≡ true) × IsKept players right made kept
IsKeptWithout other players right made kept = IsKeptBySeat right made kept

abbrev pub IsNotKeptWithout : SheetSlip → Players → (right : List Event) → (made : List ℕ) → Type 0
IsNotKeptWithout (slip.Running place s) players right made = (says_each_of s ≡ false) ⊎ IsNotKept players right made
IsNotKeptWithout other players right made = IsNotKeptBySeat right made
