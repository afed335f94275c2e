-- Laws: on which parts of a state the changes depend, which records are among those that they make, and what it means that tiles are laid
-- over a line.
use Rattle.std.specs.Prelude.{◌≡◌, ℕ, ◌≤◌, not, Bool, true, List, length, slice_get, Some, Contains}
use Rattle.ref_tiles.specs.declared.symbols.Symbol.{Symbol}
use Rattle.ref_tiles.specs.declared.rulebook.Rules.{Rules}
use Rattle.gcg_read.specs.declared.events.Event.{Event}
use Rattle.game_turns.specs.Tallies.{State}
use Rattle.repair_changes.specs.declared.slips.Slip.TheVariants as slip
use Rattle.repair_changes.specs.declared.slips.PositionSlip.TheVariants as position
use Rattle.repair_changes.specs.Applied.{applied}
use Rattle.repair_changes.specs.Differences.{IsReplacedAt}
use Rattle.repair_slips.specs.Changes.{slips_by, change_at, changes_at}
use Rattle.repair_slips.specs.Commonest.{IsShifted, DifferSlightly, IsTriedAt}
use Rattle.repair_slips.specs.Laying.{is_tile, tiles_of, laid_over}

-- what may be wrong at a place depends on the board there, on the player who is out and on whether the game is complete, and on
-- nothing else of the state: not on the written totals
abbrev pub SlipsAreByBoard : Type 0
SlipsAreByBoard =
    (rules : Rules) (s t : State) (events : List Event) (place : ℕ) → s.board ≡ t.board → s.out ≡ t.out → s.complete ≡ t.complete
    → slips_by rules s events place ≡ slips_by rules t events place

-- each record that differs from the sheet in one letter of one play, in one square's shift of one play, in one line that is left out or in two
-- neighbouring lines that are exchanged is the sheet with one of its changes
abbrev pub CommonestAreTried : Type 0
CommonestAreTried = (rules : Rules) (place : ℕ) (written other : List Event) → DifferSlightly place written other → IsTriedAt rules place written other

-- what is listed as a shift by one square is one, and nothing else of the record differs
abbrev pub ShiftsAreByOne : Type 0
ShiftsAreByOne =
    (rules : Rules) (place right : ℕ) (written : List Event) → Contains (changes_at rules written place) (change_at place (slip.Position (position.OneOff right)))
    → IsReplacedAt IsShifted place written (applied (change_at place (slip.Position (position.OneOff right))) written)

-- A text lies over a line, by which of its squares have a tile: its dots are on those and its tiles on the free ones, and the
-- square after it is free, or there is none.
pub record LiesOver (occupied : List Bool) (text : List Symbol) : Type 0 where
  pub within : length text ≤ length occupied
  pub each : (k : ℕ) (s : Symbol) (b : Bool) → slice_get text k ≡ Some s → slice_get occupied k ≡ Some b → is_tile s ≡ not b
  pub following : slice_get occupied (length text) ≡ Some true → ⊥

-- if there is room for all tiles, the text that they make lies over the line, and has these tiles in order
abbrev pub LaidTextsLie : Type 0
LaidTextsLie =
    (occupied : List Bool) (word : List Symbol) → length (tiles_of (laid_over occupied (tiles_of word))) ≡ length (tiles_of word)
    → LiesOver occupied (laid_over occupied (tiles_of word)) × (tiles_of (laid_over occupied (tiles_of word)) ≡ tiles_of word)
