-- Drafts: records whose event lines may lack the total, or the score and the total.
use Rattle.std.specs.Prelude.{◌≡◌, ◌⊎◌, ℕ, List, Option, Some, None, Result, Ok, Err}
use Rattle.std.specs.List.{after_first}
use Rattle.text_lines.specs.Fields.{fields_of}
use Rattle.gcg_read.specs.declared.faults.ReadFault.{ReadFault}
use Rattle.gcg_read.specs.Cutting.{is_colon}
use Rattle.gcg_read.specs.Faults.{no_memory}
use Rattle.gcg_read.specs.Records.{record_of}
use Rattle.gcg_drafts.specs.declared.missing.Missing.{Missing}
use Rattle.gcg_drafts.specs.declared.amiss.Amiss.{Amiss}
use Rattle.gcg_drafts.specs.declared.drafts.Draft.{Draft}
use Rattle.gcg_drafts.specs.Lacks.{lacks_in}
use Rattle.gcg_drafts.specs.Texts.{completed_text, missing_in}

-- What a text means as a draft: the record that it is with +0 and 0 in the place of the numbers that are missing, and which these are.
pub record IsDraft (text : List ℕ) (d : Draft) : Type 0 where
  pub completed : d.text.items ≡ completed_text text
  pub means : record_of (completed_text text) ≡ Ok d.record
  pub missing : d.missing.items ≡ missing_in text

-- the first fault of that record, for a text that is no draft; or lack of memory
abbrev pub IsFaultOf : (text : List ℕ) → ReadFault → Type 0
IsFaultOf text fault = (fault ≡ no_memory) ⊎ (record_of (completed_text text) ≡ Err fault)

-- The answer is the draft that the text is, or its first fault, or lack of memory.
abbrev pub IsDraftOf : (text : List ℕ) → Result Draft ReadFault → Type 0
IsDraftOf text (Ok d) = IsDraft text d
IsDraftOf text (Err fault) = IsFaultOf text fault

-- ---- what is amiss with a line

abbrev pub amiss_by : Result Missing Amiss → Option Amiss
amiss_by (Ok m) = None
amiss_by (Err amiss) = Some amiss

-- which field an event line lacks, or that it has too many
unfoldable pub amiss_on : (line : List ℕ) → Option Amiss
amiss_on line = amiss_by (lacks_in (fields_of (after_first is_colon line)))
