-- What is kept of the sheet of a game.
use Rattle.std.proofs.Common.{◌≡◌, ℕ, Bool, List, Option, sym, subst}
use Rattle.std.specs.Borrow.{Bor}
use Rattle.ref_tiles.specs.declared.rulebook.Rules.{Rules}
use Rattle.game_case.specs.declared.explains.Case.{Case}
use Rattle.repair_answers.specs.declared.likely.Likely.{Likely}
use Rattle.page_answers.specs.declared.makers.Maker.{Maker}
use Rattle.archive_answers.specs.declared.sheets.GameSheet.{GameSheet}
use Rattle.archive_answers.specs.Sheets.{IsKept, IsSheetOf}

-- by whether there is a page
pub kept_by : (paged known : Bool) (asked : Bool) (maker : Maker) (rules : Rules) (list : List (List ℕ)) (text : List ℕ) (case : Case) (likely : Option Likely) (sheet : GameSheet)
    → paged ≡ known → IsKept known asked maker rules list text case likely sheet → IsKept paged asked maker rules list text case likely sheet
kept_by paged known asked maker rules list text case likely sheet e is =
    subst (λ (b : Bool). IsKept b asked maker rules list text case likely sheet) (sym e) is

-- by whether pages are asked for
pub sheet_by : (page known : Option (Bor Maker)) (asked : Bool) (rules : Rules) (list : List (List ℕ)) (text : List ℕ) (case : Case) (likely : Option Likely) (sheet : GameSheet)
    → page ≡ known → IsSheetOf asked known rules list text case likely sheet → IsSheetOf asked page rules list text case likely sheet
sheet_by page known asked rules list text case likely sheet e is =
    subst (λ (m : Option (Bor Maker)). IsSheetOf asked m rules list text case likely sheet) (sym e) is
