-- What the reader of records answers for a text.
use Rattle.std.proofs.Common.{◌≡◌, ◌⊎◌, ℕ, false, List, Some, None, Ok, Err, ap, sym, ⊎_elim}
use Rattle.gcg_read.specs.declared.faults.ReadFault.{ReadFault}
use Rattle.gcg_read.specs.declared.records.Record.{Record}
use Rattle.gcg_read.specs.declared.faults.Why.TheVariants as why
use Rattle.gcg_read.specs.Faults.{no_memory}
use Rattle.gcg_read.specs.Records.{record_of}
use Rattle.gcg_unread.specs.Readings.{event_in, has_event}
use Rattle.gcg_unread.specs.Faulty.{why_in}

-- a fault that is not lack of memory is that of the text
pub is_fault : (text : List ℕ) (fault : ReadFault) → (fault ≡ no_memory) ⊎ (record_of text ≡ Err fault) → (fault.why ≡ why.NoMemory → ⊥) → record_of text ≡ Err fault
is_fault text fault given known =
    ⊎_elim
    (λ (none : fault ≡ no_memory). absurd (known (ap (λ (f : ReadFault). f.why) none)))
    (λ (e : record_of text ≡ Err fault). e)
    given

-- then it has no event
pub no_event : (text : List ℕ) (fault : ReadFault) → (fault ≡ no_memory) ⊎ (record_of text ≡ Err fault) → (fault.why ≡ why.NoMemory → ⊥) → false ≡ has_event text
unfolding has_event
no_event text fault given known = sym (ap event_in (is_fault text fault given known))

pub an_event : (text : List ℕ) (r : Record) → record_of text ≡ Ok r → has_event text ≡ event_in (Ok r)
unfolding has_event
an_event text r given = ap event_in given

pub ruleset read_so = (no_event, an_event)

pub its_fault : (text : List ℕ) (fault : ReadFault) → (fault ≡ no_memory) ⊎ (record_of text ≡ Err fault) → (fault.why ≡ why.NoMemory → ⊥) → Some fault.why ≡ why_in (record_of text)
its_fault text fault given known = sym (ap why_in (is_fault text fault given known))

pub no_fault : (text : List ℕ) (r : Record) → record_of text ≡ Ok r → why_in (record_of text) ≡ None
no_fault text r given = ap why_in given

pub ruleset faults_so = (its_fault, no_fault)
