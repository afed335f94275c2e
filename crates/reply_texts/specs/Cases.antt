-- What explains a case, as an object.
use Rattle.std.specs.Prelude.{ℕ, Bool, true, false, List, Option, Some, None, Result, Ok, Err, if◌then◌else◌}
use Rattle.json.specs.Json.{Json, null}
use Rattle.gcg_read.specs.declared.faults.ReadFault.{ReadFault}
use Rattle.gcg_read.specs.declared.records.Record.{Record}
use Rattle.gcg_unread.specs.declared.lines.UnreadLine.{UnreadLine}
use Rattle.engine_stages.specs.declared.verdicts.Verdict.{Verdict}
use Rattle.explain_clues.specs.Lines.{line_of}
use Rattle.game_case.specs.declared.entries.Entry.{Entry}
use Rattle.game_case.specs.declared.explains.Case.{Case}
use Rattle.game_case.specs.declared.findings.Finding.{Finding}
use Rattle.game_case.specs.declared.findings.Finding.TheVariants as finding
use Rattle.game_case.specs.Explaining.{case_verdict}
use Rattle.explain_answers.specs.declared.events.Explanation.{Explanation}
use Rattle.repair_answers.specs.declared.likely.Likely.{Likely}
use Rattle.repair_answers.specs.declared.likely.Likely.TheVariants as likely
use Rattle.json_base.specs.Refusals.{bad_record_object, no_game_object}
use Rattle.explain_json.specs.Explained.{explained_object}
use Rattle.repair_json.specs.Changes.{single_object}
use Rattle.repair_json.specs.Sheets.{whole_object}

-- the line that is explained, as it is in the file
abbrev pub written_at : (bytes : List ℕ) → (line : Option ℕ) → Option (List ℕ)
written_at bytes None = None
written_at bytes (Some line) = line_of bytes line

abbrev pub written_of : (bytes : List ℕ) → Option Explanation → Option (List ℕ)
written_of bytes None = None
written_of bytes (Some reported) = written_at bytes reported.line

-- the likely repair of a record; null if there is none
abbrev pub likely_value : Record → Option Likely → Json
likely_value r None = null
likely_value r (Some (likely.Change repair)) = single_object r.players r.events repair
likely_value r (Some (likely.Sheet repair)) = whole_object r.players repair

abbrev pub is_no_game : Finding → Bool
is_no_game finding.NoGame = true
is_no_game (finding.Legal complete) = false
is_no_game (finding.Illegal line fault) = false
is_no_game finding.Unsettled = false

-- what explains a record with its verdict, or that it has no event, with the lines that are not read
abbrev pub entry_object : Entry → Verdict → (bytes : List ℕ) → Option Explanation → Option Likely → List UnreadLine → Json
entry_object entry v bytes reported its_likely unread =
    if is_no_game entry.finding then no_game_object unread
    else explained_object v (written_of bytes reported) reported (likely_value entry.record its_likely) unread

-- or that the text is not a record
abbrev pub read_object : Result Entry ReadFault → Verdict → (bytes : List ℕ) → Option Explanation → Option Likely → List UnreadLine → Json
read_object (Ok entry) v bytes reported its_likely unread = entry_object entry v bytes reported its_likely unread
read_object (Err fault) v bytes reported its_likely unread = bad_record_object fault

abbrev pub case_object : Case → Option Explanation → Option Likely → List UnreadLine → Json
case_object case reported its_likely unread = read_object case.read (case_verdict case.read) case.text.items reported its_likely unread
