-- What the fields of a line say: of an entry, of a file that is not a record, and of a file that was not read.
use Rattle.std.specs.Prelude.{◌≡◌, ℕ, List, Option, Some, None, length, option_map}
use Rattle.std.specs.Borrow.{Bor}
use Rattle.std.specs.String.{string_bytes}
use Rattle.std.specs.Cow.{cow_str_bytes}
use Rattle.gcg_read.specs.declared.events.Seat.TheVariants.{First, Second}
use Rattle.gcg_read.specs.declared.faults.ReadFault.{ReadFault}
use Rattle.gcg_read.specs.Faults as read
use Rattle.game_corrections.specs.LastTotals.{last_total}
use Rattle.game_case.specs.declared.entries.Entry.{Entry}
use Rattle.gcg_about.specs.declared.encodings.Encoding.{Encoding}
use Rattle.archive_lines.specs.declared.answers.Answer.{Answer}
use Rattle.archive_lines.specs.declared.answers.Answer.TheVariants as answer
use Rattle.archive_lines.specs.declared.answers.Unread.{Unread}
use Rattle.archive_lines.specs.declared.fields.Fields.{Fields}
use Rattle.archive_lines.specs.Answers.{answer_of, ending_in, unread_text}
use Rattle.archive_lines.specs.Faults.{line_in, line_of_fault, fault_in, name_in, expected_in}
use Rattle.archive_lines.specs.Players.{nick_of}

-- what the line of a game says of its entry, and of so many lines that are not read
pub record SaysEntry (name : Bor (List ℕ)) (entry : Entry) (encoding : Encoding) (unread : ℕ) (f : Fields) : Type 0 where
  pub name_is : f.name ≡ name
  pub verdict : f.verdict ≡ answer_of entry.finding
  pub ending : f.ending ≡ ending_in entry.finding
  pub line : f.line ≡ line_in entry.finding
  pub fault : option_map cow_str_bytes f.fault ≡ fault_in entry.finding
  pub events : f.events ≡ Some (length entry.record.events)
  pub player1 : option_map string_bytes f.player1 ≡ nick_of encoding entry.record.players.first.nick
  pub total1 : f.total1 ≡ last_total First entry.record.events
  pub player2 : option_map string_bytes f.player2 ≡ nick_of encoding entry.record.players.second.nick
  pub total2 : f.total2 ≡ last_total Second entry.record.events
  pub unlisted : f.unlisted ≡ entry.unlisted
  pub page : f.page ≡ None
  pub likely : f.likely ≡ None
  pub fault_name : option_map cow_str_bytes f.fault_name ≡ name_in (fault_in entry.finding)
  pub expected : f.expected ≡ expected_in entry.finding
  pub unread_lines : f.unread_lines ≡ Some unread

-- a line that says no more than a verdict and a fault
pub record IsBare (name : Bor (List ℕ)) (verdict : Answer) (line : Option ℕ) (fault : List ℕ) (fault_name : Option (List ℕ)) (f : Fields) : Type 0 where
  pub name_is : f.name ≡ name
  pub verdict_is : f.verdict ≡ verdict
  pub ending : f.ending ≡ None
  pub line_is : f.line ≡ line
  pub fault_is : option_map cow_str_bytes f.fault ≡ Some fault
  pub events : f.events ≡ None
  pub player1 : option_map string_bytes f.player1 ≡ None
  pub total1 : f.total1 ≡ None
  pub player2 : option_map string_bytes f.player2 ≡ None
  pub total2 : f.total2 ≡ None
  pub unlisted : f.unlisted ≡ None
  pub page : f.page ≡ None
  pub likely : f.likely ≡ None
  pub name_of_fault : option_map cow_str_bytes f.fault_name ≡ fault_name
  pub expected : f.expected ≡ None
  pub unread_lines : f.unread_lines ≡ None

-- what it says of a file that was not read
abbrev pub SaysUnread : Bor (List ℕ) → Unread → Fields → Type 0
SaysUnread name why f = IsBare name answer.Unread None (unread_text why) None f

-- what it says of a file that is not a record
abbrev pub SaysBadRecord : Bor (List ℕ) → ReadFault → Fields → Type 0
SaysBadRecord name fault f = IsBare name answer.BadRecord (line_of_fault fault) (read.name_of fault.why) (Some (read.name_of fault.why)) f
