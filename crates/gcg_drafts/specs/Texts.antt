-- The text of a draft with numbers in the place of those that are missing, and what each of its event lines lacks.
use Rattle.std.specs.Prelude.{ℕ, ◌==◌, List, [], ◌∷◌, ◌++◌, length, map, codes, Option, Some, None, Result, Ok, Err, if◌then◌else◌}
use Rattle.std.specs.List.{slice_split, after_first, flat_map, join_with_byte}
use Rattle.text_lines.specs.Lines.{without_mark, is_feed, lines_of}
use Rattle.text_lines.specs.Fields.{fields_of}
use Rattle.gcg_read.specs.Cutting.{is_colon}
use Rattle.gcg_numbers.specs.Numbers.{Last, last_field, after_colon, in_line, is_event_line, mark_of}
use Rattle.gcg_drafts.specs.declared.missing.Missing.{Missing}
use Rattle.gcg_drafts.specs.declared.missing.Missing.TheVariants as missing
use Rattle.gcg_drafts.specs.declared.amiss.Amiss.{Amiss}
use Rattle.gcg_drafts.specs.Lacks.{lacks_in}

-- ---- numbers in the place of those that are missing

-- a space (32) before a number that is put at the end of a text, if there is no blank
abbrev pub gap_after : Option Last → List ℕ
gap_after None = []
gap_after (Some last) = if length last.back == 0 then 32 ∷ [] else []

-- a text with numbers at its end
abbrev pub with_end : (text numbers : List ℕ) → List ℕ
with_end text numbers = text ++ (gap_after (last_field text) ++ numbers)

-- the text after a colon with a score +0 and a total 0 where they are missing
abbrev pub completed_by : Result Missing Amiss → (text : List ℕ) → List ℕ
completed_by (Ok missing.Nothing) text = text
completed_by (Ok missing.Total) text = with_end text (codes "0")
completed_by (Ok missing.Both) text = with_end text (codes "+0 0")
completed_by (Err amiss) text = text

unfoldable pub completed : List ℕ → List ℕ
completed text = completed_by (lacks_in (fields_of text)) text

-- a line with them, if it is that of an event; a CR at its end stays there
unfoldable pub completed_line : List ℕ → List ℕ
completed_line line = if is_event_line line then in_line (after_colon completed) line else line

-- a text with them
unfoldable pub completed_text : List ℕ → List ℕ
completed_text text = mark_of text ++ join_with_byte 10 (map completed_line (slice_split is_feed (without_mark text)))

-- ---- what the lines lack

-- nothing, where the fields are not those of an event
abbrev pub missing_by : Result Missing Amiss → Missing
missing_by (Ok m) = m
missing_by (Err amiss) = missing.Nothing

-- what a line lacks, if it is that of an event
abbrev pub missing_on : List ℕ → List Missing
missing_on line = if is_event_line line then missing_by (lacks_in (fields_of (after_first is_colon line))) ∷ [] else []

-- what each event line lacks, in their order
unfoldable pub missing_in : List ℕ → List Missing
missing_in text = flat_map missing_on (lines_of text)
