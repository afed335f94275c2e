-- The answers about the board of a record.
use Rattle.std.specs.Prelude.{◌≡◌, ℕ, List, length, Option, Some, None}
use Rattle.ref_tiles.specs.declared.rulebook.Rules.{Rules}
use Rattle.ref_play.specs.declared.faults.PlayFault.{PlayFault}
use Rattle.gcg_read.specs.declared.events.Event.{Event}
use Rattle.gcg_read.specs.declared.records.Record.{Record}
use Rattle.game_board.specs.Places.{place_of_line}
use Rattle.game_board.specs.Laying.{AreLaid}
use Rattle.game_board.specs.Texts.{board_text}
use Rattle.engine_stages.specs.declared.verdicts.Verdict.{Verdict}
use Rattle.engine_stages.specs.declared.verdicts.Verdict.TheVariants as verdict
use Rattle.engine_stages.specs.Reading.{ReadsNoMore, ReadsRecord, ReadsRules}
use Rattle.engine_stages.specs.Reports.{bad_line_line}
use Rattle.engine_stages.specs.Reporting.{IsReported}

-- the place that is given: that of the first event on a line or after it; without a line, after the last event
abbrev pub place_asked : List Event → (before : Option ℕ) → Option ℕ
place_asked events None = Some (length events)
place_asked events (Some line) = place_of_line events line

-- It is done, and the text shows the board on which the plays before a place are laid, as far as they can be.
pub record IsShown (rules : Rules) (r : Record) (asked : ℕ) (v : Verdict) (report : List ℕ) : Type 0 where
  pub verdict_is : v ≡ verdict.Done
  pub end : ℕ
  pub why : Option PlayFault
  pub laid : AreLaid r.events asked end why
  pub shown : report ≡ board_text rules r end why

-- the same if there is such a place; otherwise that there is none
abbrev pub IsShownAt : Rules → Record → (asked : Option ℕ) → Verdict → List ℕ → Type 0
IsShownAt rules r None v report = IsReported verdict.BadLine bad_line_line v report
IsShownAt rules r (Some asked) v report = IsShown rules r asked v report

-- What is answered on the bytes of a record. Its events need only be plays that can be laid.
abbrev pub IsBoarded : Rules → (before : Option ℕ) → (texts : List (List ℕ)) → Verdict → List ℕ → Type 0
IsBoarded rules before = ReadsRecord (λ r. ReadsNoMore (IsShownAt rules r (place_asked r.events before)))

-- the same by the rules that a text means, which is read before the record
abbrev pub IsBoardedByText : (before : Option ℕ) → (texts : List (List ℕ)) → Verdict → List ℕ → Type 0
IsBoardedByText before = ReadsRules (λ rules. IsBoarded rules before)
