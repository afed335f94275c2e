-- What the line of a game says.
use Rattle.std.specs.Prelude.{◌≡◌, ℕ, Bool, true, false, List, length, is_some, Option, Some, None, Result, Ok, Err}
use Rattle.std.specs.Borrow.{Bor}
use Rattle.gcg_read.specs.declared.faults.ReadFault.{ReadFault}
use Rattle.game_case.specs.declared.entries.Entry.{Entry}
use Rattle.gcg_about.specs.Encodings.{encoding_of}
use Rattle.gcg_unread.specs.Lines.{unread_of}
use Rattle.repair_answers.specs.declared.likely.Likely.{Likely}
use Rattle.archive_lines.specs.declared.fields.Fields.{Fields}
use Rattle.archive_lines.specs.declared.likely.LikelyFields.{LikelyFields}
use Rattle.archive_lines.specs.declared.pages.PageField.{PageField}
use Rattle.archive_lines.specs.Said.{SaysEntry, SaysBadRecord}

-- how many lines of a text are not read although they look like events
abbrev pub count_unread : (text : List ℕ) → ℕ
count_unread text = length (unread_of text)

-- what the line says of what was read from a text, but for what it says only if it is asked for
abbrev pub SaysRead : (name : Bor (List ℕ)) → (text : List ℕ) → Result Entry ReadFault → Fields → Type 0
SaysRead name text (Ok entry) f = SaysEntry name entry (encoding_of text) (count_unread text) f
SaysRead name text (Err fault) f = SaysBadRecord name fault f

-- a record has a likely repair
abbrev pub has_repair : Result Entry ReadFault → Option Likely → Bool
has_repair (Ok entry) likely = is_some likely
has_repair (Err fault) likely = false

-- what a line says of a likely repair: the change and the numbers, or neither
abbrev pub SaysChange : (repaired : Bool) → LikelyFields → Type 0
SaysChange repaired said = (is_some said.change ≡ repaired) × (is_some said.numbers_right ≡ repaired)

-- the same if it is asked for
abbrev pub SaysLikely : (asked repaired : Bool) → Option LikelyFields → Type 0
SaysLikely true repaired (Some said) = SaysChange repaired said
SaysLikely true repaired None = ⊥
SaysLikely false repaired said = said ≡ None

-- a line with what it says of the page and of the likely repair
abbrev pub with_asked : Fields → Option PageField → Option LikelyFields → Fields
with_asked f page likely = record {
  name = f.name;
  verdict = f.verdict;
  ending = f.ending;
  line = f.line;
  fault = f.fault;
  events = f.events;
  player1 = f.player1;
  total1 = f.total1;
  player2 = f.player2;
  total2 = f.total2;
  unlisted = f.unlisted;
  page = page;
  likely = likely;
  fault_name = f.fault_name;
  expected = f.expected;
  unread_lines = f.unread_lines;
}
