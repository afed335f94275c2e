-- The weight of a slip of the whole sheet: a smaller one is likelier.
use Rattle.std.specs.Prelude.{ℕ}
use Rattle.repair_sheets.specs.declared.slips.SheetSlip.{SheetSlip}
use Rattle.repair_sheets.specs.declared.slips.SheetSlip.TheVariants as slip

-- A line that is not read, or that no record can have, is there to be seen: nothing weighs against that it should be another one.
abbrev pub weight_of : SheetSlip → ℕ
weight_of (slip.Unread line) = 0
weight_of (slip.ExtraMark number) = 0
weight_of (slip.NoPlace number at d) = 0
weight_of (slip.Running place s) = 2
