-- What holds for each line.
use Rattle.std.specs.Prelude.{◌≡◌, ◌==◌, ℕ, true, not, List, ◌∷◌}
use Rattle.std.specs.List.{list_all}
use Rattle.archive_lines.specs.TabLines.{joined, fields_read}

-- a reader gets the fields back
abbrev pub IsReadBack : Type 0
IsReadBack = (field : List ℕ) (fields : List (List ℕ)) → fields_read (joined (field ∷ fields)) ≡ field ∷ fields

-- the fields of a line have no LF (10)
abbrev pub IsOneLine : Type 0
IsOneLine = (fields : List (List ℕ)) → list_all (λ byte. not (byte == 10)) (joined fields) ≡ true
