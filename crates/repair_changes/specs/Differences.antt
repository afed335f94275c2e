-- How a list differs from another one in one place, and how a record differs from a sheet that has one slip.
use Rattle.std.specs.Prelude.{◌≡◌, ◌⊎◌, ℕ, List, ◌∷◌, ◌++◌, length, None}
use Rattle.ref_tiles.specs.declared.symbols.Symbol.{Symbol}
use Rattle.ref_tiles.specs.declared.symbols.Symbol.TheVariants as symbol
use Rattle.ref_board.specs.declared.directions.Dir.{Dir}
use Rattle.ref_board.specs.Lines.{other_dir}
use Rattle.ref_board.specs.Cells.{mirrored}
use Rattle.gcg_read.specs.Players.{other_seat}
use Rattle.gcg_read.specs.declared.events.Event.{Event}
use Rattle.gcg_read.specs.declared.events.EventKind.TheVariants as kind
use Rattle.repair_changes.specs.declared.slips.Slip.{Slip}
use Rattle.repair_changes.specs.declared.slips.Slip.TheVariants as slip
use Rattle.repair_changes.specs.declared.slips.PositionSlip.{PositionSlip}
use Rattle.repair_changes.specs.declared.slips.PositionSlip.TheVariants as position
use Rattle.repair_changes.specs.declared.slips.SpellingSlip.{SpellingSlip}
use Rattle.repair_changes.specs.declared.slips.SpellingSlip.TheVariants as spelling
use Rattle.repair_changes.specs.declared.slips.TilesOf.{TilesOf}
use Rattle.repair_changes.specs.declared.slips.TilesOf.TheVariants as tiles_of
use Rattle.repair_changes.specs.Applied.{missing_event}

-- ---- two lists, of symbols or of lines

-- The element at a place is another one, and all others are the same.
pub record IsReplacedAt {A : Type 0} (Which : A → A → Type 0) (place : ℕ) (old new : List A) : Type 0 where
  pub front : List A
  pub one : A
  pub other : A
  pub following : List A
  pub there : length front ≡ place
  pub is : old ≡ front ++ one ∷ following
  pub becomes : new ≡ front ++ other ∷ following
  pub which : Which one other

-- The element at a place is left out.
pub record IsOmittedAt {A : Type 0} (place : ℕ) (old new : List A) : Type 0 where
  pub front : List A
  pub one : A
  pub following : List A
  pub there : length front ≡ place
  pub is : old ≡ front ++ one ∷ following
  pub becomes : new ≡ front ++ following

-- An element is put in before the one at a place, or after the last.
pub record IsPutInAt {A : Type 0} (other : A) (place : ℕ) (old new : List A) : Type 0 where
  pub front : List A
  pub following : List A
  pub there : length front ≡ place
  pub is : old ≡ front ++ following
  pub becomes : new ≡ front ++ other ∷ following

-- The element at a place and the next one are exchanged.
pub record AreExchangedAt {A : Type 0} (place : ℕ) (old new : List A) : Type 0 where
  pub front : List A
  pub first : A
  pub second : A
  pub following : List A
  pub there : length front ≡ place
  pub is : old ≡ front ++ first ∷ second ∷ following
  pub becomes : new ≡ front ++ second ∷ first ∷ following

-- The element at a place and the second one after it are exchanged.
pub record AreExchangedOver {A : Type 0} (place : ℕ) (old new : List A) : Type 0 where
  pub front : List A
  pub first : A
  pub middle : A
  pub last : A
  pub following : List A
  pub there : length front ≡ place
  pub is : old ≡ front ++ first ∷ middle ∷ last ∷ following
  pub becomes : new ≡ front ++ last ∷ middle ∷ first ∷ following

-- ---- two plays

-- where a play begins and in which direction it goes, without a slip of its position
abbrev pub BeginsAt : PositionSlip → (at square : ℕ) → (dir way : Dir) → Type 0
BeginsAt position.OtherDirection at square dir way = (square ≡ at) × (way ≡ other_dir dir)
BeginsAt (position.OneOff right) at square dir way = (square ≡ right) × (way ≡ dir)
BeginsAt (position.Further right) at square dir way = (square ≡ right) × (way ≡ dir)
BeginsAt position.Interchanged at square dir way = (square ≡ mirrored at) × (way ≡ dir)

-- a play of the same text in another place, and nothing else of the line
pub record IsMoved (s : PositionSlip) (old new : Event) : Type 0 where
  pub at : ℕ
  pub square : ℕ
  pub dir : Dir
  pub way : Dir
  pub word : List Symbol
  pub is : old.kind ≡ kind.Play at dir word
  pub becomes : new ≡ record old { kind = kind.Play square way word }
  pub begins : BeginsAt s at square dir way

-- a text without a slip: one symbol is another one, is left out or is put in, or two neighbours are exchanged
abbrev pub IsRespelled : SpellingSlip → (word right : List Symbol) → Type 0
IsRespelled (spelling.OtherTile place meant) word right = IsReplacedAt (λ (a b : Symbol). b ≡ meant) place word right
IsRespelled (spelling.Dot place) word right = IsReplacedAt (λ (a b : Symbol). b ≡ symbol.Dot) place word right
IsRespelled (spelling.Letter place meant) word right = IsReplacedAt (λ (a b : Symbol). b ≡ symbol.Letter meant) place word right
IsRespelled (spelling.OtherLetter place meant) word right = IsReplacedAt (λ (a b : Symbol). b ≡ meant) place word right
IsRespelled (spelling.Extra place) word right = IsOmittedAt place word right
IsRespelled (spelling.MissingDot place) word right = IsPutInAt symbol.Dot place word right
IsRespelled (spelling.MissingLetter place meant) word right = IsPutInAt (symbol.Letter meant) place word right
IsRespelled (spelling.Twisted place) word right = AreExchangedAt place word right
IsRespelled (spelling.Laid laid) word right = right ≡ laid

-- a play of another text in the same place, and nothing else of the line
pub record IsRewritten (s : SpellingSlip) (old new : Event) : Type 0 where
  pub at : ℕ
  pub dir : Dir
  pub word : List Symbol
  pub right : List Symbol
  pub is : old.kind ≡ kind.Play at dir word
  pub becomes : new ≡ record old { kind = kind.Play at dir right }
  pub text : (right ≡ word) ⊎ IsRespelled s word right

-- ---- two lines

-- they agree but for what happened
abbrev pub DifferInKind : (old new : Event) → Type 0
DifferInKind old new = new ≡ record old { kind = new.kind }

-- but for the stated rack
abbrev pub DifferInRack : (old new : Event) → Type 0
DifferInRack old new = new ≡ record old { rack = new.rack }

-- but for these two
abbrev pub DifferInBoth : (old new : Event) → Type 0
DifferInBoth old new = new ≡ record old { rack = new.rack; kind = new.kind }

-- but for the tiles that are meant
abbrev pub DifferInTiles : TilesOf → (old new : Event) → Type 0
DifferInTiles tiles_of.Rack old new = DifferInRack old new
DifferInTiles tiles_of.Exchange old new = DifferInKind old new
DifferInTiles tiles_of.LastRack old new = DifferInKind old new

-- A line and the same line without a slip: in what this slip is about they may differ, and in nothing else.
abbrev pub LinesDiffer : Slip → (old new : Event) → Type 0
LinesDiffer (slip.Position s) old new = (new ≡ old) ⊎ IsMoved s old new
LinesDiffer (slip.Spelling s) old new = (new ≡ old) ⊎ IsRewritten s old new
LinesDiffer (slip.Replayed right) old new = DifferInKind old new
LinesDiffer (slip.Tile of s) old new = DifferInTiles of old new
LinesDiffer (slip.Misread m) old new = DifferInBoth old new
LinesDiffer slip.NoRack old new = new ≡ record old { rack = None }
LinesDiffer (slip.Number n) old new = DifferInKind old new
LinesDiffer (slip.Code s) old new = DifferInKind old new
LinesDiffer (slip.Rest counts) old new = DifferInKind old new
LinesDiffer (slip.Amount right) old new = new ≡ record old { score = right }
LinesDiffer slip.OtherPlayer old new = new ≡ record old { player = other_seat old.player }
LinesDiffer other old new = ⊥

-- ---- two records

-- A sheet and a record without its slip: one line is another one, is left out or is put in, or two lines are exchanged.
abbrev pub RecordsDiffer : Slip → (place : ℕ) → (written other : List Event) → Type 0
RecordsDiffer slip.Repeated place written other = IsOmittedAt place written other
RecordsDiffer slip.ExtraPass place written other = IsOmittedAt place written other
RecordsDiffer slip.Extra place written other = IsOmittedAt place written other
RecordsDiffer slip.Swapped place written other = AreExchangedAt place written other
RecordsDiffer slip.SwappedOver place written other = AreExchangedOver place written other
RecordsDiffer (slip.Missing line) place written other = IsPutInAt (missing_event line) place written other
RecordsDiffer what place written other = IsReplacedAt (LinesDiffer what) place written other
