-- The events of a text, by what the reader of records answers.
use Rattle.std.proofs.Common.{◌≡◌, ◌⊎◌, ℕ, List, Some, None, Ok, Err, ap, sym}
use Rattle.gcg_read.specs.declared.faults.ReadFault.{ReadFault}
use Rattle.gcg_read.specs.declared.records.Record.{Record}
use Rattle.gcg_read.specs.declared.faults.Why.TheVariants as why
use Rattle.gcg_read.specs.Faults.{no_memory}
use Rattle.gcg_read.specs.Records.{record_of}
use Rattle.gcg_unread.proofs.OneLine.{is_fault}
use Rattle.repair_sheets.specs.Undoing.{events_of, events_in}

-- a text with a fault has none
pub no_events : (text : List ℕ) (fault : ReadFault) → (fault ≡ no_memory) ⊎ (record_of text ≡ Err fault) → (fault.why ≡ why.NoMemory → ⊥) → None ≡ events_in text
unfolding events_in
no_events text fault given known = sym (ap events_of (is_fault text fault given known))

pub its_events : (text : List ℕ) (r : Record) → record_of text ≡ Ok r → Some r.events ≡ events_in text
unfolding events_in
its_events text r given = sym (ap events_of given)

pub ruleset read_so = (no_events, its_events)
