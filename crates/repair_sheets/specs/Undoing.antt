-- The events of a record without a slip of the whole sheet.
use Rattle.std.specs.Prelude.{ℕ, List, Option, Some, None, Result, Ok, Err}
use Rattle.gcg_read.specs.declared.events.Event.{Event}
use Rattle.gcg_read.specs.declared.faults.ReadFault.{ReadFault}
use Rattle.gcg_read.specs.declared.records.Record.{Record}
use Rattle.gcg_read.specs.Records.{record_of}
use Rattle.repair_sheets.specs.declared.slips.SheetSlip.{SheetSlip}
use Rattle.repair_sheets.specs.declared.slips.SheetSlip.TheVariants as slip
use Rattle.repair_sheets.specs.Mending.{mended_text}
use Rattle.repair_sheets.specs.Running.{running_without}

-- the events of a text, if it is a record
abbrev pub events_of : Result Record ReadFault → Option (List Event)
events_of (Ok r) = Some r.events
events_of (Err fault) = None

-- the same
unfoldable pub events_in : (text : List ℕ) → Option (List Event)
events_in text = events_of (record_of text)

-- Those that were written, without the slip that runs through them; or those of the text without a slip that is on one line. None if the slip cannot be on each
-- of these lines, or the text is not a record then.
abbrev pub without_slip : SheetSlip → (text : List ℕ) → (written : List Event) → Option (List Event)
without_slip (slip.Running place s) text written = running_without s place written
without_slip other text written = events_in (mended_text other text)
