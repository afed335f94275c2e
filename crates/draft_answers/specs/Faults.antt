-- The fault of a text that is no draft.
use Rattle.std.specs.Prelude.{ℕ, Bool, true, false, List, Option, Some, None, if◌then◌else◌}
use Rattle.gcg_read.specs.declared.faults.Why.{Why}
use Rattle.gcg_read.specs.declared.faults.Why.TheVariants as why
use Rattle.gcg_read.specs.declared.faults.ReadFault.{ReadFault}
use Rattle.explain_clues.specs.Lines.{line_of}
use Rattle.gcg_drafts.specs.declared.amiss.Amiss.{Amiss}
use Rattle.gcg_drafts.specs.Drafts.{amiss_on}
use Rattle.draft_answers.specs.declared.faults.DraftFault.{DraftFault}

-- whether a fault is one of the fields of a line
abbrev pub is_of_fields : Why → Bool
is_of_fields why.Fields = true
is_of_fields why.Rack = true
is_of_fields why.Position = true
is_of_fields why.Word = true
is_of_fields why.Code = true
is_of_fields why.Number = true
is_of_fields why.TooLong = false
is_of_fields why.TooManyEvents = false
is_of_fields why.NoColon = false
is_of_fields why.ThirdPlayer = false
is_of_fields why.NoMemory = false

abbrev pub amiss_in : (line : Option (List ℕ)) → Option Amiss
amiss_in None = None
amiss_in (Some line) = amiss_on line

-- which field the line of a fault lacks, or that it has too many
abbrev pub amiss_at : (text : List ℕ) → ReadFault → Option Amiss
amiss_at text fault = if is_of_fields fault.why then amiss_in (line_of text fault.line) else None

abbrev pub named : ReadFault → Option Amiss → DraftFault
named fault None = record { fault = fault; amiss = None }
named fault (Some amiss) = record { fault = record { line = fault.line; why = why.Fields }; amiss = Some amiss }

-- The first fault of the record that a draft would be. If its line lacks a field or has too many, it is named so, whatever else is wrong with its
-- fields.
abbrev pub reported_fault : (text : List ℕ) → ReadFault → DraftFault
reported_fault text fault = named fault (amiss_at text fault)
