-- The answers about the best plays on the board after a record.
use Rattle.std.specs.Prelude.{◌≡◌, ◌⊎◌, ℕ, List, Option, Some, None, Result, IfOk, IfErr}
use Rattle.io_devices.specs.Devices.{Device}
use Rattle.ref_tiles.specs.declared.rulebook.Rules.{Rules}
use Rattle.gcg_read.specs.declared.records.Record.{Record}
use Rattle.gcg_read.specs.Racks.{rack_of}
use Rattle.game_turns.specs.Places.{AreAllowed}
use Rattle.game_report.specs.TopPlays.{board_after, ReportsTop}
use Rattle.engine_stages.specs.declared.decisions.Decision.{Decision}
use Rattle.engine_stages.specs.declared.faults.RunFault.{RunFault}
use Rattle.engine_stages.specs.declared.faults.RunFault.TheVariants as run
use Rattle.engine_stages.specs.declared.verdicts.Verdict.{Verdict}
use Rattle.engine_stages.specs.declared.verdicts.Verdict.TheVariants as verdict
use Rattle.engine.specs.Judging.{IsRefused}
use Rattle.engine_stages.specs.Reading.{ReadsNoMore, ReadsList, ReadsLexicon, ReadsRecord, ReadsRules}
use Rattle.engine_stages.specs.Reports.{bad_rack_line}
use Rattle.engine_stages.specs.Runs.{IsSent}
use Rattle.engine_stages.specs.Reporting.{IsReported}

-- the rules allow each event, and the report has the ten best candidates by a rack on the board after the last event
pub record AreReported (rules : Rules) (words : List (List ℕ)) (rack : List ℕ) (r : Record) (v : Verdict) (report : List ℕ) : Type 0 where
  pub verdict_is : v ≡ verdict.Done
  pub allowed : AreAllowed rules words r.events
  pub reported : ReportsTop rules words (board_after rules r.events) rack report

-- What is answered on a record by a rack. It is done exactly if the rules allow each event, whatever the racks of the record
-- are: bounds and deals are not looked at.
abbrev pub IsToppedOn : Rules → (words : List (List ℕ)) → (rack : List ℕ) → Record → Verdict → List ℕ → Type 0
IsToppedOn rules words rack r v report = AreReported rules words rack r v report ⊎ IsRefused rules words r v report

-- what is answered on the bytes of a word list, a lexicon and a record
abbrev pub IsToppedBy : Rules → (rack : List ℕ) → (texts : List (List ℕ)) → Verdict → List ℕ → Type 0
IsToppedBy rules rack = ReadsList (λ words. ReadsLexicon words (ReadsRecord (λ r. ReadsNoMore (IsToppedOn rules words rack r))))

-- what is answered by a rack, if there is one; otherwise that there is none
abbrev pub ByRack : {A : Type 0} → ((rack : A) → (texts : List (List ℕ)) → Verdict → List ℕ → Type 0) → (rack : Option A) → (texts : List (List ℕ)) → Verdict → List ℕ → Type 0
ByRack IsAnswer None texts v report = IsReported verdict.BadRack bad_rack_line v report
ByRack IsAnswer (Some rack) texts v report = IsAnswer rack texts v report

-- what is written if there is no rack: that there is none, and nothing if memory is refused
pub record RefusesRack (old new : Device) (result : Result Verdict RunFault) : Type 0 where
  pub decided : Result Decision RunFault
  pub reported : IfOk decided (λ d. IsReported verdict.BadRack bad_rack_line d.verdict d.report.items)
  pub memory : IfErr decided (λ fault. fault ≡ run.NoMemory)
  pub sent : IsSent decided old new result

-- What is answered by the bytes of a rack: that they are not a rack, exactly if they are not 1 to 7 of A to Z and '?',
-- and that before any input is looked at.
abbrev pub IsTopped : Rules → (rack : List ℕ) → (texts : List (List ℕ)) → Verdict → List ℕ → Type 0
IsTopped rules bytes = ByRack (IsToppedBy rules) (rack_of bytes)

-- the same by the rules that a text means, which is read before the other inputs
abbrev pub IsToppedByText : (rack : List ℕ) → (texts : List (List ℕ)) → Verdict → List ℕ → Type 0
IsToppedByText bytes = ByRack (λ rack. ReadsRules (λ rules. IsToppedBy rules rack)) (rack_of bytes)
