-- What holds of each line.
use Rattle.std.specs.Prelude.{◌≡◌, ◌==◌, ℕ, true, not, length, Option, Some, None}
use Rattle.std.specs.List.{list_all}
use Rattle.archive_lines.specs.TabLines.{joined, fields_read}
use Rattle.archive_lines.specs.declared.fields.Fields.{Fields}
use Rattle.archive_lines.specs.declared.likely.LikelyFields.{LikelyFields}
use Rattle.archive_lines.specs.declared.pages.PageField.{PageField}
use Rattle.archive_lines.specs.Tabs.{reported}

-- a reader that cuts the line at its tabs, and undoes the escapes, has what was written
abbrev pub IsReadBack : Type 0
IsReadBack = (f : Fields) → fields_read (joined (reported f)) ≡ reported f

-- how many fields there are, with pages and without, and with repairs and without
abbrev pub count_with : Option PageField → Option LikelyFields → ℕ
count_with None None = 12
count_with (Some page) None = 13
count_with None (Some likely) = 14
count_with (Some page) (Some likely) = 15

abbrev pub HasSoMany : Type 0
HasSoMany = (f : Fields) → length (fields_read (joined (reported f))) ≡ count_with f.page f.likely

-- no LF (10) is in the fields of a line
abbrev pub IsOneLine : Type 0
IsOneLine = (f : Fields) → list_all (λ byte. not (byte == 10)) (joined (reported f)) ≡ true
