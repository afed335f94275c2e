-- The commonest ways in which a record differs from a sheet: in one letter of one play, in one square's shift of one play, in one line
-- that is left out, or in two neighbouring lines that are exchanged.
use Rattle.std.specs.Prelude.{◌≡◌, ◌⊎◌, ℕ, ◌+◌, ◌<◌, ◌≤◌, List, length, Contains}
use Rattle.ref_tiles.specs.declared.rulebook.Rules.{Rules}
use Rattle.ref_tiles.specs.declared.symbols.Symbol.{Symbol}
use Rattle.ref_tiles.specs.declared.symbols.Symbol.TheVariants as symbol
use Rattle.ref_board.specs.declared.directions.Dir.{Dir}
use Rattle.ref_board.specs.declared.directions.Dir.TheVariants.{Across, Down}
use Rattle.ref_board.specs.Lines.{line_of, place_of}
use Rattle.gcg_read.specs.declared.events.Event.{Event}
use Rattle.gcg_read.specs.declared.events.EventKind.TheVariants as kind
use Rattle.repair_changes.specs.declared.slips.Change.{Change}
use Rattle.repair_changes.specs.Applied.{applied}
use Rattle.repair_changes.specs.Differences.{IsReplacedAt, IsOmittedAt, AreExchangedAt}
use Rattle.repair_slips.specs.Changes.{changes_at}

-- ---- one letter of one play

-- One symbol is written for another: a letter for another one, on a tile or on a blank; a letter for a blank that shows it, or a blank for that
-- letter; a tile for one that was there before, or that one for a tile.
abbrev pub IsMistaken : (written meant : Symbol) → Type 0
IsMistaken symbol.Dot symbol.Dot = ⊥
IsMistaken symbol.Dot (symbol.Letter m) = Unit {0}
IsMistaken symbol.Dot (symbol.Blank m) = ⊥
IsMistaken (symbol.Letter l) symbol.Dot = Unit {0}
IsMistaken (symbol.Letter l) (symbol.Letter m) = m.index ≡ l.index → ⊥
IsMistaken (symbol.Letter l) (symbol.Blank m) = m ≡ l
IsMistaken (symbol.Blank l) symbol.Dot = Unit {0}
IsMistaken (symbol.Blank l) (symbol.Letter m) = m ≡ l
IsMistaken (symbol.Blank l) (symbol.Blank m) = m.index ≡ l.index → ⊥

-- the same line, but for one symbol of its play
pub record IsMisspelt (old new : Event) : Type 0 where
  pub at : ℕ
  pub dir : Dir
  pub word : List Symbol
  pub right : List Symbol
  pub place : ℕ
  pub is : old.kind ≡ kind.Play at dir word
  pub becomes : new ≡ record old { kind = kind.Play at dir right }
  pub fits : length word ≤ 15
  pub one : IsReplacedAt IsMistaken place word right

-- ---- one square's shift of one play

-- two squares of one row or of one column that are next to each other
pub record AreBesideOn (d : Dir) (at square : ℕ) : Type 0 where
  pub line : line_of d square ≡ line_of d at
  pub beside : (place_of d square + 1 ≡ place_of d at) ⊎ (place_of d at + 1 ≡ place_of d square)

abbrev pub AreBeside : (at square : ℕ) → Type 0
AreBeside at square = AreBesideOn Across at square ⊎ AreBesideOn Down at square

-- the same line, but for the square on which its play begins: that is one square off
pub record IsShifted (old new : Event) : Type 0 where
  pub at : ℕ
  pub square : ℕ
  pub dir : Dir
  pub word : List Symbol
  pub is : old.kind ≡ kind.Play at dir word
  pub becomes : new ≡ record old { kind = kind.Play square dir word }
  pub beside : AreBeside at square

-- that square is on the board
pub record IsShiftedOnBoard (old new : Event) : Type 0 where
  pub shift : IsShifted old new
  pub on_board : shift.square < 225

-- ---- two records

-- one letter, one square, one line or two neighbouring lines, at a place
abbrev pub DifferSlightly : (place : ℕ) → (written other : List Event) → Type 0
DifferSlightly place written other =
    IsReplacedAt IsMisspelt place written other ⊎ IsReplacedAt IsShiftedOnBoard place written other
    ⊎ IsOmittedAt place written other ⊎ AreExchangedAt place written other

-- a record is the sheet with one of the changes at a place
pub record IsTriedAt (rules : Rules) (place : ℕ) (written other : List Event) : Type 0 where
  pub within : place ≤ length written
  pub change : Change
  pub listed : Contains (changes_at rules written place) change
  pub makes : applied change written ≡ other
