-- The answers about the best plays before a line of a record.
use Rattle.std.specs.Prelude.{◌≡◌, ◌⊎◌, ℕ, List, Option, Some, None, slice_get}
use Rattle.std.specs.Option.{option_map}
use Rattle.ref_tiles.specs.declared.rulebook.Rules.{Rules}
use Rattle.gcg_read.specs.declared.events.Event.{Event}
use Rattle.gcg_read.specs.declared.records.Record.{Record}
use Rattle.gcg_read.specs.Racks.{rack_of}
use Rattle.game_turns.specs.declared.faults.RuleFault.{RuleFault}
use Rattle.game_turns.specs.Places.{AreAllowedTo, IsRefusedBefore}
use Rattle.game_turns.specs.Tallies.{tally_at}
use Rattle.game_report.specs.TopPlays.{ReportsFirst}
use Rattle.engine_stages.specs.declared.verdicts.GameFault.TheVariants as game
use Rattle.engine_stages.specs.declared.verdicts.Verdict.{Verdict}
use Rattle.engine_stages.specs.declared.verdicts.Verdict.TheVariants as verdict
use Rattle.engine.specs.Boards.{place_asked}
use Rattle.engine_stages.specs.Reading.{ReadsNoMore, ReadsList, ReadsLexicon, ReadsRecord, ReadsRules}
use Rattle.engine_stages.specs.Reports.{bad_rack_line, bad_line_line, illegal_line}
use Rattle.engine_stages.specs.Reporting.{IsReported}
use Rattle.engine.specs.Topping.{ByRack}

-- the rack of an event, if it shows one
abbrev pub shown_rack : Option Event → Option (List ℕ)
shown_rack None = None
shown_rack (Some e) = e.rack

-- the rack of the question: the one that is given, and without one that of the event at the place
abbrev pub rack_asked : (given : Option (List ℕ)) → Option Event → Option (List ℕ)
rack_asked (Some rack) e = Some rack
rack_asked None e = shown_rack e

-- the rules allow each event before a place, and the report has the best `number` candidates by a rack on the board there
pub record AreReportedBefore (number : ℕ) (rules : Rules) (words : List (List ℕ)) (rack : List ℕ) (r : Record) (place : ℕ) (v : Verdict) (report : List ℕ) : Type 0 where
  pub verdict_is : v ≡ verdict.Done
  pub allowed : AreAllowedTo rules words r.events place
  pub reported : ReportsFirst number rules words (tally_at rules r.events place).board rack report

-- the first event that is not allowed is before a place, and the report gives it
pub record IsReportedRefusal (rules : Rules) (words : List (List ℕ)) (r : Record) (place : ℕ) (v : Verdict) (report : List ℕ) : Type 0 where
  pub line : ℕ
  pub why : RuleFault
  pub refused : IsRefusedBefore rules words r.events place line why
  pub reported : IsReported (verdict.Illegal line (game.Rule why)) (illegal_line line (game.Rule why)) v report

-- what is answered for a place by the rack of the question, if there is one; otherwise that there is none
abbrev pub ByRackAsked : (number : ℕ) → Rules → (words : List (List ℕ)) → Record → (place : ℕ) → (rack : Option (List ℕ)) → Verdict → List ℕ → Type 0
ByRackAsked number rules words r place None v report = IsReported verdict.BadRack bad_rack_line v report
ByRackAsked number rules words r place (Some rack) v report = AreReportedBefore number rules words rack r place v report ⊎ IsReportedRefusal rules words r place v report

-- what is answered for the place of the question, if there is one; otherwise that there is no such line
abbrev pub ByPlaceAsked : (number : ℕ) → Rules → (words : List (List ℕ)) → Record → (given : Option (List ℕ)) → (place : Option ℕ) → Verdict → List ℕ → Type 0
ByPlaceAsked number rules words r given None v report = IsReported verdict.BadLine bad_line_line v report
ByPlaceAsked number rules words r given (Some place) v report = ByRackAsked number rules words r place (rack_asked given (slice_get r.events place)) v report

-- What is answered on a record: that there is no such line; otherwise that there is no rack; otherwise the first event before the
-- line that is not allowed, or the best plays. The events on the line and after it are not judged.
abbrev pub IsToppedBefore : (number : ℕ) → (before : Option ℕ) → Rules → (words : List (List ℕ)) → (given : Option (List ℕ)) → Record → Verdict → List ℕ → Type 0
IsToppedBefore number before rules words given r v report = ByPlaceAsked number rules words r given (place_asked r.events before) v report

-- the rack that the bytes of an argument mean, if there is the argument
abbrev pub given_rack : (bytes : Option (List ℕ)) → Option (Option (List ℕ))
given_rack None = Some None
given_rack (Some bytes) = option_map Some (rack_of bytes)

-- what is answered on the bytes of a word list, a lexicon and a record
abbrev pub IsToppedBeforeBy : (number : ℕ) → (before : Option ℕ) → Rules → (given : Option (List ℕ)) → (texts : List (List ℕ)) → Verdict → List ℕ → Type 0
IsToppedBeforeBy number before rules given = ReadsList (λ words. ReadsLexicon words (ReadsRecord (λ r. ReadsNoMore (IsToppedBefore number before rules words given r))))

-- What is answered by the bytes of a rack, or without them: that they are not a rack, exactly if they are not 1 to 7 of A to
-- Z and '?', and that before any input is looked at.
abbrev pub AreTopped : (number : ℕ) → (before : Option ℕ) → Rules → (bytes : Option (List ℕ)) → (texts : List (List ℕ)) → Verdict → List ℕ → Type 0
AreTopped number before rules bytes = ByRack (IsToppedBeforeBy number before rules) (given_rack bytes)

-- the same by the rules that a text means, which is read before the other inputs
abbrev pub AreToppedByText : (number : ℕ) → (before : Option ℕ) → (bytes : Option (List ℕ)) → (texts : List (List ℕ)) → Verdict → List ℕ → Type 0
AreToppedByText number before bytes = ByRack (λ given. ReadsRules (λ rules. IsToppedBeforeBy number before rules given)) (given_rack bytes)
