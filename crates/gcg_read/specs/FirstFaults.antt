-- Which fault of a text is reported: the first by line.
use Rattle.std.specs.Prelude.{◌≡◌, ℕ, ◌+◌, ◌≤◌, List, ◌∷◌, ◌++◌, length, Ok, Err}
use Rattle.gcg_read.specs.declared.faults.ReadFault.{ReadFault}
use Rattle.gcg_read.specs.declared.records.Record.{Record}
use Rattle.gcg_read.specs.Cutting.{lines_of}
use Rattle.gcg_read.specs.Records.{most_bytes, no_record, with_line, record_from, record_of}

-- A line is the first with a fault: the lines before it are those of a record, and with that record it has this fault.
-- Lines are numbered from 1.
pub record IsFirstFault (lines : List (List ℕ)) (fault : ReadFault) : Type 0 where
  pub before : List (List ℕ)
  pub line : List ℕ
  pub following : List (List ℕ)
  pub so_far : Record
  pub whole : before ++ line ∷ following ≡ lines
  pub earlier : record_from no_record 1 before ≡ Ok so_far
  pub number : fault.line ≡ length before + 1
  pub fails : with_line so_far (length before + 1) line ≡ Err fault

-- if a text that is not too long has no meaning, its fault is that of the first line that has one
abbrev pub FaultIsFirst : Type 0
FaultIsFirst = (text : List ℕ) (fault : ReadFault) → length text ≤ most_bytes → record_of text ≡ Err fault → IsFirstFault (lines_of text) fault
