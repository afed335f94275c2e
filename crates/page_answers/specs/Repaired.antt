-- The board with the likely repair of a record.
use Rattle.std.specs.Prelude.{◌≡◌, ◌≤◌, Bool, true, false, length, Option, Some, None}
use Rattle.repair_changes.specs.declared.slips.Slip.{Slip}
use Rattle.repair_changes.specs.declared.slips.Slip.TheVariants as slip
use Rattle.repair_changes.specs.declared.slips.Misread.{Misread}
use Rattle.repair_changes.specs.declared.slips.Misread.TheVariants as misread
use Rattle.repair_changes.specs.declared.slips.MissingLine.{MissingLine}
use Rattle.repair_changes.specs.declared.slips.MissingLine.TheVariants as line
use Rattle.repair_single.specs.declared.repair.Repair.{Repair}
use Rattle.sheet_scores.specs.declared.pictures.Picture.{Picture}
use Rattle.sheet_scores.specs.Boards.{IsShownAt}
use Rattle.repair_answers.specs.declared.likely.Likely.{Likely}
use Rattle.repair_answers.specs.declared.likely.Likely.TheVariants as likely_one

-- whether a missing line is a play
abbrev pub is_missing_play : MissingLine → Bool
is_missing_play (line.Play player play) = true
is_missing_play other = false

-- whether a tile that is misread twice is one of the word of a play
abbrev pub is_in_word : Misread → Bool
is_in_word (misread.Played place written right) = true
is_in_word (misread.Exchanged written right) = false

-- whether a slip is one of a play: of its position, of its text or of the whole play; or whether a play is missing
abbrev pub is_of_play : Slip → Bool
is_of_play (slip.Position s) = true
is_of_play (slip.Spelling s) = true
is_of_play (slip.Replayed play) = true
is_of_play (slip.Misread m) = is_in_word m
is_of_play (slip.Missing m) = is_missing_play m
is_of_play other = false

-- a repair of a play whose place is one of the right events, or the one after the last
abbrev pub RepairsPlay : Repair → Type 0
RepairsPlay repair = (is_of_play repair.listed.change.slip ≡ true) × (repair.listed.change.place ≤ length repair.right)

-- the board with the play as it should be, if the repair is one of a play, and no board if it is not
abbrev pub IsBoardOf : Repair → Option Picture → Type 0
IsBoardOf repair None = RepairsPlay repair → ⊥
IsBoardOf repair (Some picture) = RepairsPlay repair × IsShownAt repair.right repair.listed.change.place picture

-- the same for the likely repair; no board if there is none, or if it is a slip of the whole sheet
abbrev pub IsRepairedBoard : Option Likely → Option Picture → Type 0
IsRepairedBoard None board = board ≡ None
IsRepairedBoard (Some (likely_one.Change repair)) board = IsBoardOf repair board
IsRepairedBoard (Some (likely_one.Sheet slip)) board = board ≡ None
