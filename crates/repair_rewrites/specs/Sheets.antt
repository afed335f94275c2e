-- The text of a sheet without a slip of the whole sheet.
use Rattle.std.specs.Prelude.{ℕ, List}
use Rattle.gcg_read.specs.declared.events.Event.{Event}
use Rattle.gcg_read.specs.declared.players.Players.{Players}
use Rattle.gcg_numbers.specs.Numbers.{text_with}
use Rattle.repair_sheets.specs.declared.slips.SheetSlip.{SheetSlip}
use Rattle.repair_sheets.specs.declared.slips.SheetSlip.TheVariants as slip
use Rattle.repair_sheets.specs.Mending.{mended_text}
use Rattle.repair_rewrites.specs.Running.{text_without}

-- With the lines that a slip changes that runs through the sheet written anew; or without a slip that is on one line, and with the right numbers on each line.
abbrev pub sheet_without : SheetSlip → Players → (right : List Event) → (text : List ℕ) → List ℕ
sheet_without (slip.Running place s) players right text = text_without s place players right text
sheet_without other players right text = text_with right (mended_text other text)
