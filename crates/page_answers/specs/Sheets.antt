-- The score sheet of a page.
use Rattle.std.specs.Prelude.{◌≡◌, ℕ, List}
use Rattle.ref_tiles.specs.declared.rulebook.Rules.{Rules}
use Rattle.gcg_read.specs.declared.events.Event.{Event}
use Rattle.gcg_read.specs.declared.records.Record.{Record}
use Rattle.sheet_scores.specs.declared.sheets.ScoreSheet.{ScoreSheet}
use Rattle.sheet_scores.specs.Sheets.{IsScoreSheet}
use Rattle.page_answers.specs.declared.sheets.PageSheet.{PageSheet}

-- a score sheet apart from its players and its events
abbrev pub parts_of : ScoreSheet → PageSheet
parts_of sheet = record {
  first_total = sheet.first_total;
  second_total = sheet.second_total;
  standing = sheet.standing;
  rows = sheet.rows;
  first_gains = sheet.first_gains;
  second_gains = sheet.second_gains;
  boards = sheet.boards;
  positions = sheet.positions;
  shown = sheet.shown;
}

-- the score sheet of a record, with the board at a place, apart from the players and the events, which are those of the record
pub record IsPageSheet (rules : Rules) (list : List (List ℕ)) (r : Record) (right : List Event) (place : ℕ) (sheet : PageSheet) : Type 0 where
  pub whole : ScoreSheet
  pub of_record : IsScoreSheet rules list r right place whole
  pub parts : sheet ≡ parts_of whole
