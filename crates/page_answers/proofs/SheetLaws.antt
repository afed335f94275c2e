-- The score sheet of a page.
use Rattle.std.proofs.Common.{◌≡◌, ℕ, List}
use Rattle.ref_tiles.specs.declared.rulebook.Rules.{Rules}
use Rattle.gcg_read.specs.declared.events.Event.{Event}
use Rattle.gcg_read.specs.declared.records.Record.{Record}
use Rattle.sheet_scores.specs.declared.sheets.ScoreSheet.{ScoreSheet}
use Rattle.sheet_scores.specs.Sheets.{IsScoreSheet}
use Rattle.page_answers.specs.declared.sheets.PageSheet.{PageSheet}
use Rattle.page_answers.specs.Sheets.{parts_of, IsPageSheet}

pub parts_are : (rules : Rules) (list : List (List ℕ)) (r : Record) (right : List Event) (place : ℕ) (whole : ScoreSheet) (sheet : PageSheet) → IsScoreSheet rules list r right place whole
    → sheet ≡ parts_of whole → IsPageSheet rules list r right place sheet
parts_are rules list r right place whole sheet is parts = record { whole = whole; of_record = is; parts = parts }
