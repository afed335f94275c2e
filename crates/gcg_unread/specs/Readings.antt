-- Texts of one line, read as records.
use Rattle.std.specs.Prelude.{ℕ, Bool, false, ◌==◌, nat_lt, List, ◌++◌, length, drop, codes, Result, Ok, Err}
use Rattle.std.specs.List.{position_or_len}
use Rattle.gcg_read.specs.declared.faults.ReadFault.{ReadFault}
use Rattle.gcg_read.specs.declared.records.Record.{Record}
use Rattle.gcg_read.specs.Records.{record_of}

-- > (62)
abbrev pub is_mark : ℕ → Bool
is_mark byte = byte == 62

-- a line from its first > on
abbrev pub from_mark : List ℕ → List ℕ
from_mark line = drop (position_or_len is_mark line) line

abbrev pub event_in : Result Record ReadFault → Bool
event_in (Ok r) = nat_lt 0 (length r.events)
event_in (Err fault) = false

-- a text is a record, and has an event
unfoldable pub has_event : List ℕ → Bool
has_event text = event_in (record_of text)

-- a field, with what comes behind it, is what an event has after its colon
abbrev pub read_with : (field following : List ℕ) → Bool
read_with field following = has_event ((codes ">a: " ++ field) ++ following)
