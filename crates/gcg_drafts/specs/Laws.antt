-- Laws of drafts.
use Rattle.std.specs.Prelude.{◌≡◌, ◌≤◌, ◌⊎◌, ℕ, true, List, [], ◌∷◌, ◌++◌, length, map, Ok, Err}
use Rattle.text_lines.specs.Fields.{fields_of}
use Rattle.gcg_read.specs.declared.events.Event.{Event}
use Rattle.gcg_read.specs.declared.events.EventKind.{EventKind}
use Rattle.gcg_read.specs.declared.events.EventKind.TheVariants as kind
use Rattle.gcg_read.specs.declared.event_lines.Heading.{Heading}
use Rattle.gcg_read.specs.declared.records.Record.{Record}
use Rattle.gcg_read.specs.EventLines.{event_of}
use Rattle.gcg_read.specs.Records.{record_of}
use Rattle.gcg_drafts.specs.declared.missing.Missing.{Missing}
use Rattle.gcg_drafts.specs.declared.missing.Missing.TheVariants as missing
use Rattle.gcg_drafts.specs.declared.amiss.Amiss.TheVariants as amiss
use Rattle.gcg_drafts.specs.Lacks.{lacks_in}
use Rattle.gcg_drafts.specs.Texts.{completed_text, missing_in}

-- ---- every record is a draft that means itself

pub record MeansItself (text : List ℕ) (r : Record) : Type 0 where
  pub same : completed_text text ≡ text
  pub whole : missing_in text ≡ map (λ e. missing.Nothing) r.events

-- nothing is put into a record, and it lacks nothing
abbrev pub OwnDraft : Type 0
OwnDraft = (text : List ℕ) (r : Record) → record_of text ≡ Ok r → MeansItself text r

-- ---- no line of a draft has two readings

-- how many numbers are missing
abbrev pub count_of : Missing → ℕ
count_of missing.Nothing = 0
count_of missing.Total = 1
count_of missing.Both = 2

-- an event to which the rules allow several scores
abbrev pub IsOfChoice : EventKind → Type 0
IsOfChoice k = (k ≡ kind.Challenge) ⊎ (k ≡ kind.Time)

-- what is said of the fields of a line if they are those of an event with some of its last fields left out
pub record IsReported (fields more : List (List ℕ)) : Type 0 where
  pub lacks : Missing
  pub reported : lacks_in fields ≡ Ok lacks
  pub many : count_of lacks ≡ length more

-- what is said of them if the score and the total of a challenge or of a penalty are left out
pub record HasNoScore (fields more : List (List ℕ)) (e : Event) : Type 0 where
  pub reported : lacks_in fields ≡ Err amiss.NoScore
  pub many : 2 ≡ length more
  pub kind : IsOfChoice e.kind

-- If the fields of a line with none, one or two more at their end are those of an event, then what the line lacks is told: that many numbers, or
-- the score of a challenge or of a penalty.
abbrev pub LacksAreReported : Type 0
LacksAreReported =
    (heading : Heading) (fields more : List (List ℕ)) (e : Event) → length more ≤ 2 → event_of heading (fields ++ more) ≡ Ok e
    → IsReported fields more ⊎ HasNoScore fields more e

-- both are the same event, but for their numbers
abbrev pub IsSameBut : Event → Event → Type 0
IsSameBut e other = other ≡ record e { score = other.score; total = other.total }

-- whatever is put at the end of the fields of a line to make them those of an event, it is as many fields, and the event is the same but for its numbers
abbrev pub OneReading : Type 0
OneReading =
    (heading : Heading) (fields more other : List (List ℕ)) (e f : Event) → length more ≤ 2 → length other ≤ 2
    → event_of heading (fields ++ more) ≡ Ok e → event_of heading (fields ++ other) ≡ Ok f → (length more ≡ length other) × IsSameBut e f
