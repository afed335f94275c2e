-- The score sheet of a record.
use Rattle.std.specs.Prelude.{◌≡◌, ℕ, List, length}
use Rattle.ref_tiles.specs.declared.rulebook.Rules.{Rules}
use Rattle.gcg_read.specs.declared.events.Event.{Event}
use Rattle.gcg_read.specs.declared.events.Seat.TheVariants.{First, Second}
use Rattle.gcg_read.specs.declared.records.Record.{Record}
use Rattle.game_corrections.specs.LastTotals.{last_total}
use Rattle.game_corrections.specs.Standings.{IsStanding}
use Rattle.sheet_scores.specs.declared.sheets.ScoreSheet.{ScoreSheet}
use Rattle.sheet_scores.specs.Boards.{ArePictures, IsShownAt}
use Rattle.sheet_scores.specs.Positions.{ArePositions}
use Rattle.sheet_scores.specs.Rows.{AreSheetRows}
use Rattle.sheet_scores.specs.Gains.{gains_to, IsGain}
use Rattle.sheet_scores.specs.Sums.{best_of}

-- A score sheet of a record, by the same events with their right numbers: its players and its events, the last totals and who is ahead by them, a
-- row for each event in order and how many points more the best plays of each player would have given, the boards after the events and what is
-- said of each, and the board at a place.
pub record IsScoreSheet (rules : Rules) (list : List (List ℕ)) (r : Record) (right : List Event) (place : ℕ) (sheet : ScoreSheet) : Type 0 where
  pub players : sheet.players.now ≡ r.players
  pub events : sheet.events.now ≡ r.events
  pub first : sheet.first_total ≡ last_total First r.events
  pub second : sheet.second_total ≡ last_total Second r.events
  pub standing : IsStanding (last_total First r.events) (last_total Second r.events) sheet.standing
  pub rows : AreSheetRows rules list r.events right (length r.events) sheet.rows.items
  pub first_gains : IsGain (gains_to First r.events (best_of sheet.rows.items) (length r.events)) sheet.first_gains
  pub second_gains : IsGain (gains_to Second r.events (best_of sheet.rows.items) (length r.events)) sheet.second_gains
  pub boards : ArePictures r.events sheet.boards.items
  pub positions : ArePositions rules r.events sheet.boards.items (length sheet.boards.items) sheet.positions.items
  pub shown : IsShownAt r.events place sheet.shown
