-- The text of a sheet without a slip that is on one line: one that is not read, or one that no record can have.
use Rattle.std.specs.Prelude.{ℕ, ◌+◌, ◌==◌, Bool, false, List, [], ◌∷◌, ◌++◌, drop, if◌then◌else◌}
use Rattle.std.specs.List.{slice_split, join_with_byte}
use Rattle.text_lines.specs.Lines.{without_mark, is_feed}
use Rattle.gcg_numbers.specs.Numbers.{mark_of}
use Rattle.gcg_unread.specs.declared.reasons.UnreadWhy.{UnreadWhy}
use Rattle.gcg_unread.specs.declared.reasons.UnreadWhy.TheVariants as why
use Rattle.gcg_unread.specs.Readings.{from_mark}
use Rattle.repair_sheets.specs.declared.slips.SheetSlip.{SheetSlip}
use Rattle.repair_sheets.specs.declared.slips.SheetSlip.TheVariants as slip
use Rattle.repair_sheets.specs.Places.{line_with_place}

-- A line that is not read, as an event: without what is before its first >, with > (62) in place of another sign, or with > in front.
abbrev pub as_event : UnreadWhy → List ℕ → List ℕ
as_event why.Blank line = from_mark line
as_event why.Before line = from_mark line
as_event why.OtherSign line = 62 ∷ drop 1 line
as_event why.NoMark line = 62 ∷ line
as_event why.Parts line = 62 ∷ line

-- whether a slip is on the line with a number
abbrev pub is_on : SheetSlip → (number : ℕ) → Bool
is_on (slip.Unread unread) number = number == unread.line
is_on (slip.ExtraMark one) number = number == one
is_on (slip.NoPlace one at d) number = number == one
is_on (slip.Running place s) number = false

-- A line without the slip that is on it: as an event; without its first byte, the > that should not be there; or with the place of its play.
abbrev pub mended : SheetSlip → List ℕ → List ℕ
mended (slip.Unread unread) line = as_event unread.why line
mended (slip.ExtraMark one) line = drop 1 line
mended (slip.NoPlace one at d) line = line_with_place at d line
mended (slip.Running place s) line = line

-- the line with a number, without the slip if that is on it
abbrev pub mended_line : SheetSlip → (number : ℕ) → List ℕ → List ℕ
mended_line s number line = if is_on s number then mended s line else line

-- lines, the first of which has this number
abbrev pub mended_lines : SheetSlip → (number : ℕ) → List (List ℕ) → List (List ℕ)
mended_lines s number [] = []
mended_lines s number (line ∷ lines) = mended_line s number line ∷ mended_lines s (number + 1) lines

-- The text of a sheet without a slip that is on one line; its lines are numbered from 1, and each other line stays.
unfoldable pub mended_text : SheetSlip → (text : List ℕ) → List ℕ
mended_text s text = mark_of text ++ join_with_byte 10 (mended_lines s 1 (slice_split is_feed (without_mark text)))
