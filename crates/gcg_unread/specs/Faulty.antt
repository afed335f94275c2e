-- The lines that begin with > and are no events.
use Rattle.std.specs.Prelude.{ℕ, ◌+◌, ◌==◌, nat_lt, List, [], ◌∷◌, ◌++◌, length, Result, Ok, Err, Option, Some, None, if◌then◌else◌}
use Rattle.std.specs.List.{starts_with}
use Rattle.text_lines.specs.Lines.{lines_of}
use Rattle.gcg_read.specs.declared.faults.ReadFault.{ReadFault}
use Rattle.gcg_read.specs.declared.faults.Why.{Why}
use Rattle.gcg_read.specs.declared.records.Record.{Record}
use Rattle.gcg_read.specs.Records.{most_bytes, record_of}

abbrev pub why_in : Result Record ReadFault → Option Why
why_in (Ok r) = None
why_in (Err fault) = Some fault.why

-- why a line that begins with > (62) is not the only line of a record
unfoldable pub fault_alone : List ℕ → Option Why
fault_alone line = if starts_with ◌==◌ line (62 ∷ []) then why_in (record_of line) else None

-- a line in the list, if it has a fault
abbrev pub faults_listed : (line : ℕ) → Option Why → List ReadFault
faults_listed line None = []
faults_listed line (Some reason) = record { line = line; why = reason } ∷ []

-- those of further lines, the first of which has this number
unfoldable pub faulty_from : (line : ℕ) → List (List ℕ) → List ReadFault
faulty_from line [] = []
faulty_from line (text ∷ rest) = faults_listed line (fault_alone text) ++ faulty_from (line + 1) rest

-- those of a text that is not too long for a record; its lines are numbered from 1
unfoldable pub faulty_of : List ℕ → List ReadFault
faulty_of text = if nat_lt most_bytes (length text) then [] else faulty_from 1 (lines_of text)
