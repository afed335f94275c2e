-- The bytes that an audit prints.
use Rattle.std.specs.Prelude.{ℕ, ℤ, List, [], ◌∷◌, ◌++◌, codes, decimal, ◌&&◌, Bool, true, false, slice_get, Option, Some, None, if◌then◌else◌}
use Rattle.std.specs.List.{flat_map}
use Rattle.std.specs.Ordering.{int_eq}
use Rattle.std.specs.Fmt.{signed_decimal}
use Rattle.gcg_read.specs.declared.players.Players.{Players}
use Rattle.gcg_read.specs.Players.{player_of, same_seat}
use Rattle.gcg_read.specs.declared.events.Event.{Event}
use Rattle.gcg_write.specs.Fields.{kind_text}
use Rattle.game_corrections.specs.declared.standings.Standing.{Standing}
use Rattle.game_corrections.specs.declared.standings.Standing.TheVariants as standing
use Rattle.game_corrections.specs.WrongNumbers.{due}
use Rattle.game_case.specs.declared.audits.Audit.{Audit}
use Rattle.game_case.specs.declared.findings.Finding.{Finding}
use Rattle.game_case.specs.declared.findings.Finding.TheVariants as finding
use Rattle.game_case.specs.Explaining.{finding_line}
use Rattle.sheet_audit.specs.declared.reported.ReportedNumber.{ReportedNumber}
use Rattle.sheet_audit.specs.declared.reported.ReportedNumber.TheVariants as reported
use Rattle.sheet_audit.specs.Numbers.{reported_numbers}

-- what comes between a number that is written and the right one
unfoldable pub should_be : List ℕ
should_be = codes ", should be "

-- , should be RIGHT
unfoldable pub right_text : (right : ℤ) → List ℕ
right_text right = should_be ++ signed_decimal right ++ 10 ∷ []

-- WRITTEN, should be RIGHT
abbrev pub both_text : (written right : ℤ) → List ℕ
both_text written right = signed_decimal written ++ right_text right

-- the number of a line, and what comes after it
unfoldable pub line_text : (line : ℕ) → List ℕ
line_text line = codes "line " ++ decimal line ++ codes ": "

-- what happened in an event, and whose it was: NICK, EVENT
abbrev pub event_text : Players → Option Event → List ℕ
event_text players None = []
event_text players (Some e) = (player_of players e.player).nick ++ codes ", " ++ kind_text e.kind

-- WRITTEN, should be RIGHT (
unfoldable pub numbers_text : (written right : ℤ) → List ℕ
numbers_text written right = signed_decimal written ++ should_be ++ signed_decimal right ++ codes " ("

-- line LINE: WHAT WRITTEN, should be RIGHT (
unfoldable pub wrong_text : (line : ℕ) → (what : List ℕ) → (written right : ℤ) → List ℕ
wrong_text line what written right = line_text line ++ what ++ numbers_text written right

-- what ends such a line
unfoldable pub end_text : List ℕ
end_text = codes ")" ++ 10 ∷ []

-- line LINE: WHAT WRITTEN, should be RIGHT (NICK, EVENT)
abbrev pub on_line_text : (line : ℕ) → (what : List ℕ) → (written right : ℤ) → (event : List ℕ) → List ℕ
on_line_text line what written right event = wrong_text line what written right ++ (event ++ end_text)

-- the line of a wrong number: a score and a sum by the line of its event, with the event; a last total by the nickname of its player
abbrev pub reported_text : Players → List Event → ReportedNumber → List ℕ
reported_text players events (reported.Score place line player written right) = on_line_text line (codes "score ") written right (event_text players (slice_get events place))
reported_text players events (reported.Sum place line player written sum right) =
    on_line_text line (codes "sum ") written (due sum right) (event_text players (slice_get events place))
reported_text players events (reported.Total player written right) = codes "total of " ++ (player_of players player).nick ++ codes ": " ++ both_text written right

-- a line for each wrong number, in their order
abbrev pub reported_texts : Players → List Event → List ReportedNumber → List ℕ
reported_texts players events numbers = flat_map (reported_text players events) numbers

-- ---- who is ahead

-- what comes between a nickname and the points by which its player is ahead
unfoldable pub won_by : List ℕ
won_by = codes " won by "

unfoldable pub is_ahead_by : List ℕ
is_ahead_by = codes " is ahead by "

unfoldable pub same_total : List ℕ
same_total = codes "both have the same total"

unfoldable pub other_player : List ℕ
other_player = codes "the other player"

-- how a player is named: the nickname, or that it is the other player if there is none
abbrev pub name_of : (nick : List ℕ) → List ℕ
name_of [] = other_player
name_of (byte ∷ bytes) = byte ∷ bytes

-- NAME won by POINTS, NAME is ahead by POINTS, or that both have the same total
abbrev pub ahead_text : Players → (verb : List ℕ) → Standing → List ℕ
ahead_text players verb standing.Even = same_total
ahead_text players verb (standing.Ahead player by) = name_of (player_of players player).nick ++ verb ++ signed_decimal by

-- whether the same player is ahead by the same number of points
abbrev pub same_standing : Standing → Standing → Bool
same_standing standing.Even standing.Even = true
same_standing standing.Even (standing.Ahead player by) = false
same_standing (standing.Ahead player by) standing.Even = false
same_standing (standing.Ahead player by) (standing.Ahead other points) = same_seat player other && int_eq by points

unfoldable pub by_the_sheet : List ℕ
by_the_sheet = codes "; by the sheet "

-- who is ahead by the sheet, if that is not the same
abbrev pub sheet_text : Players → (verb : List ℕ) → (ahead written : Standing) → List ℕ
sheet_text players verb ahead written = if same_standing ahead written then [] else by_the_sheet ++ ahead_text players verb written

-- who is ahead by the right numbers, and by the sheet if that is not the same
abbrev pub standing_text : Players → (verb : List ℕ) → (ahead written : Standing) → List ℕ
standing_text players verb ahead written = ahead_text players verb ahead ++ sheet_text players verb ahead written ++ 10 ∷ []

-- the same if the rules allow each event of the corrected record: whoever is ahead at the end of a game wins
abbrev pub lead_text : Finding → Players → (ahead written : Standing) → List ℕ
lead_text finding.NoGame players ahead written = []
lead_text (finding.Legal true) players ahead written = standing_text players won_by ahead written
lead_text (finding.Legal false) players ahead written = standing_text players is_ahead_by ahead written
lead_text (finding.Illegal line fault) players ahead written = []
lead_text finding.Unsettled players ahead written = standing_text players is_ahead_by ahead written

-- a line for each wrong number, after them what is said of a bonus or a penalty that would explain them, the verdict line of the corrected record, and
-- at the end who is ahead
unfoldable pub audit_text : Audit → (amount : List ℕ) → List ℕ
audit_text a amount =
    reported_texts a.entry.record.players a.entry.record.events (reported_numbers a) ++ amount ++ finding_line a.entry.finding
    ++ lead_text a.entry.finding a.entry.record.players a.ahead a.written
