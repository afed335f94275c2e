-- What may be wrong with the line for which a text is not a record.
use Rattle.std.specs.Prelude.{ℕ, ◌-◌, ◌==◌, ◌||◌, nat_lt, not, Bool, List, [], ◌∷◌, ◌++◌, length, if◌then◌else◌}
use Rattle.std.specs.List.{flat_map, range_with_len, slice_split, list_all, starts_with}
use Rattle.std.specs.Char.{is_ascii_digit}
use Rattle.text_lines.specs.Lines.{without_mark, is_feed}
use Rattle.ref_board.specs.declared.directions.Dir.{Dir}
use Rattle.ref_board.specs.declared.directions.Dir.TheVariants.{Across, Down}
use Rattle.gcg_numbers.specs.Numbers.{is_event_line}
use Rattle.repair_sheets.specs.declared.slips.SheetSlip.{SheetSlip}
use Rattle.repair_sheets.specs.declared.slips.SheetSlip.TheVariants as slip

-- ---- the slips of a line

-- a digit, - (45) or ( (40): each number, place and code has one of them
abbrev pub is_of_event : ℕ → Bool
is_of_event byte = is_ascii_digit byte || byte == 45 || byte == 40

-- A line that begins with > (62) may be a note if it has no such byte, as an event has a score and a total. If it begins with two, one may be too many.
abbrev pub may_be_note : List ℕ → Bool
may_be_note line = list_all (λ byte. not (is_of_event byte)) line || starts_with ◌==◌ line (62 ∷ 62 ∷ [])

abbrev pub note_slips : (number : ℕ) → (line : List ℕ) → List SheetSlip
note_slips number line = if may_be_note line then slip.ExtraMark number ∷ [] else []

-- its place is not written: it is this square in a direction
abbrev pub place_slip : (number : ℕ) → Dir → (at : ℕ) → List SheetSlip
place_slip number d at = slip.NoPlace number at d ∷ []

-- the same for each square of the board
unfoldable pub place_slips : (number : ℕ) → Dir → List SheetSlip
place_slips number d = flat_map (place_slip number d) (range_with_len 0 225)

-- those of the line with a number: a line that begins with >
abbrev pub line_slips : (number : ℕ) → (line : List ℕ) → List SheetSlip
line_slips number line = if is_event_line line then note_slips number line ++ place_slips number Across ++ place_slips number Down else []

-- ---- the slips of a text

-- the line with a number, counted from 1; empty if there is none
abbrev pub line_at : (number : ℕ) → (lines : List (List ℕ)) → List ℕ
line_at number [] = []
line_at number (line ∷ lines) = if number == 1 then line else line_at (number - 1) lines

-- the most bytes of a text of which they are tried: 256 KiB
abbrev pub most_tried : ℕ
most_tried = 262144

-- All of them, given the number of the line.
unfoldable pub bad_slips : (text : List ℕ) → (number : ℕ) → List SheetSlip
bad_slips text number = if nat_lt most_tried (length text) then [] else line_slips number (line_at number (slice_split is_feed (without_mark text)))
