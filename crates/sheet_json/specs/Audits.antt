-- An audit as an object.
use Rattle.std.specs.Prelude.{ℕ, ℤ, List, [], ◌∷◌, codes, map, slice_get, Option, Some, None, option_map}
use Rattle.json.specs.Json.{Json, null, string}
use Rattle.json_trees.specs.Values.{Field, array_of, count, integer, object_of, or_null, text}
use Rattle.game_corrections.specs.declared.standings.Standing.{Standing}
use Rattle.game_case.specs.declared.findings.Finding.{Finding}
use Rattle.game_case.specs.declared.findings.Finding.TheVariants as finding
use Rattle.gcg_read.specs.declared.events.Event.{Event}
use Rattle.gcg_read.specs.declared.events.Seat.{Seat}
use Rattle.gcg_read.specs.declared.records.Record.{Record}
use Rattle.gcg_read.specs.Players.{player_of}
use Rattle.repair_answers.specs.declared.sheet_amounts.SheetAmount.{SheetAmount}
use Rattle.sheet_audit.specs.declared.answers.AuditAnswer.{AuditAnswer}
use Rattle.sheet_audit.specs.declared.reported.ReportedNumber.{ReportedNumber}
use Rattle.sheet_audit.specs.declared.reported.ReportedNumber.TheVariants as reported
use Rattle.gcg_unread.specs.declared.lines.UnreadLine.{UnreadLine}
use Rattle.json_base.specs.Faults.{game_fault_object}
use Rattle.json_base.specs.Kinds.{kind_direction, kind_place, kind_symbols}
use Rattle.json_base.specs.Players.{players_value, standing_object}
use Rattle.json_base.specs.Values.{unread_value}
use Rattle.json_base.specs.Verdicts.{ending_word}
use Rattle.json_base.specs.Words.{kind_word, player_number}
use Rattle.repair_json.specs.Changes.{single_object}

-- ---- what is found of the corrected record

abbrev pub finding_word : Finding → List ℕ
finding_word finding.NoGame = codes "no game"
finding_word (finding.Legal complete) = codes "legal"
finding_word (finding.Illegal line fault) = codes "illegal"
finding_word finding.Unsettled = codes "unsettled"

-- the line of the fault
abbrev pub finding_line : Finding → Json
finding_line finding.NoGame = null
finding_line (finding.Legal complete) = null
finding_line (finding.Illegal line fault) = count line
finding_line finding.Unsettled = null

abbrev pub finding_fault : Finding → Json
finding_fault finding.NoGame = null
finding_fault (finding.Legal complete) = null
finding_fault (finding.Illegal line fault) = game_fault_object fault
finding_fault finding.Unsettled = null

-- whether a legal game has ended
abbrev pub finding_ending : Finding → Json
finding_ending finding.NoGame = null
finding_ending (finding.Legal complete) = string (ending_word complete)
finding_ending (finding.Illegal line fault) = null
finding_ending finding.Unsettled = null

-- ---- who is ahead

-- null if the record is illegal or has no event
abbrev pub ahead_value : Finding → Standing → Json
ahead_value finding.NoGame it = null
ahead_value (finding.Legal complete) it = standing_object it
ahead_value (finding.Illegal line fault) it = null
ahead_value finding.Unsettled it = standing_object it

-- ---- wrong numbers

-- of the event on the line of a wrong number its line, its kind, and of a play where it begins, its direction and its text
abbrev pub line_value : Option Event → Json
line_value None = null
line_value (Some event) = count event.line

abbrev pub kind_value : Option Event → Json
kind_value None = null
kind_value (Some event) = string (kind_word event.kind)

abbrev pub place_value : Option Event → Json
place_value None = null
place_value (Some event) = kind_place event.kind

abbrev pub direction_value : Option Event → Json
direction_value None = null
direction_value (Some event) = kind_direction event.kind

abbrev pub symbols_value : Option Event → Json
symbols_value None = null
symbols_value (Some event) = kind_symbols event.kind

-- a number that is wrong: which one, its event, the number that is written, the sum of its line, and the right number
abbrev pub wrong_fields : Record → (what : List ℕ) → Option Event → Seat → (written : ℤ) → (sum right : Option ℤ) → List Field
wrong_fields r what event player written sum right =
    (codes "wrong", string what)
    ∷ (codes "line", line_value event)
    ∷ (codes "player", count (player_number player))
    ∷ (codes "nick", text (player_of r.players player).nick)
    ∷ (codes "kind", kind_value event)
    ∷ (codes "place", place_value event)
    ∷ (codes "direction", direction_value event)
    ∷ (codes "text", symbols_value event)
    ∷ (codes "written", integer written)
    ∷ (codes "sum", or_null (option_map integer sum))
    ∷ (codes "right", or_null (option_map integer right))
    ∷ []

abbrev pub wrong_of : Record → (what : List ℕ) → Option Event → Seat → (written : ℤ) → (sum right : Option ℤ) → Json
wrong_of r what event player written sum right = object_of (wrong_fields r what event player written sum right)

abbrev pub wrong_object : Record → ReportedNumber → Json
wrong_object r (reported.Score place line player written right) = wrong_of r (codes "score") (slice_get r.events place) player written None (Some right)
wrong_object r (reported.Sum place line player written sum right) = wrong_of r (codes "sum") (slice_get r.events place) player written (Some sum) right
wrong_object r (reported.Total player written right) = wrong_of r (codes "last total") None player written None (Some right)

-- a bonus or a penalty that would explain the numbers
abbrev pub amount_object : SheetAmount → Json
amount_object amount = single_object amount.record.players amount.record.events amount.repair

-- ---- the audit: the verdict of the corrected record, the players, each number that is wrong, who is ahead by the right numbers and by those of the sheet, a
-- bonus or a penalty that would explain the numbers, and the lines that are not read

abbrev pub audit_fields : AuditAnswer → List UnreadLine → List Field
audit_fields answer unread =
    (codes "verdict", string (finding_word answer.audit.entry.finding))
    ∷ (codes "line", finding_line answer.audit.entry.finding)
    ∷ (codes "fault", finding_fault answer.audit.entry.finding)
    ∷ (codes "ending", finding_ending answer.audit.entry.finding)
    ∷ (codes "players", players_value answer.audit.entry.record.players)
    ∷ (codes "wrong", array_of (map (wrong_object answer.audit.entry.record) answer.numbers.items))
    ∷ (codes "ahead", ahead_value answer.audit.entry.finding answer.audit.ahead)
    ∷ (codes "ahead_by_sheet", ahead_value answer.audit.entry.finding answer.audit.written)
    ∷ (codes "amount", or_null (option_map amount_object answer.amount))
    ∷ (codes "unread_lines", unread_value unread)
    ∷ []

abbrev pub audit_object : AuditAnswer → List UnreadLine → Json
audit_object answer unread = object_of (audit_fields answer unread)
