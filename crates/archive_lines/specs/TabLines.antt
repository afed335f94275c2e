-- A line of fields that tabs separate.
use Rattle.std.specs.Prelude.{ℕ, Bool, true, false, ◌==◌, List, [], ◌∷◌, ◌++◌, codes, map, Option, Some, None, if◌then◌else◌}
use Rattle.std.specs.Borrow.{Bor}
use Rattle.std.specs.List.{flat_map, slice_split}

-- A tab (9), an LF (10) and a backslash (92) are written as a backslash and 't', 'n' or a backslash; any other byte as itself.
abbrev pub escaped_byte : ℕ → List ℕ
escaped_byte byte =
    if byte == 9 then codes "\\t" else (if byte == 10 then codes "\\n" else (if byte == 92 then codes "\\\\" else byte ∷ []))

unfoldable pub escaped : List ℕ → List ℕ
escaped text = flat_map escaped_byte text

-- the fields with a tab between two
abbrev pub joined : List (List ℕ) → List ℕ
joined [] = []
joined (field ∷ []) = escaped field
joined (field ∷ next ∷ fields) = escaped field ++ 9 ∷ joined (next ∷ fields)

-- a line with its LF
abbrev pub line_text : List (List ℕ) → List ℕ
line_text fields = joined fields ++ 10 ∷ []

-- ---- what a reader reads

-- what a byte after a backslash stands for: 't' (116) for a tab, 'n' (110) for an LF
abbrev pub meant : ℕ → ℕ
meant byte = if byte == 116 then 9 else (if byte == 110 then 10 else byte)

-- a text with its escapes undone; `following` says whether a backslash comes before it
abbrev pub unescaped_after : (following : Bool) → List ℕ → List ℕ
unescaped_after true [] = 92 ∷ []
unescaped_after false [] = []
unescaped_after true (byte ∷ text) = meant byte ∷ unescaped_after false text
unescaped_after false (byte ∷ text) = if byte == 92 then unescaped_after true text else byte ∷ unescaped_after false text

abbrev pub unescaped : List ℕ → List ℕ
unescaped text = unescaped_after false text

abbrev pub is_tab : ℕ → Bool
is_tab byte = byte == 9

-- the fields of a line without its LF
abbrev pub fields_read : List ℕ → List (List ℕ)
fields_read text = map unescaped (slice_split is_tab text)

-- the fields of what follows a tab, as they are written
abbrev pub fields_after : Option (Bor (List ℕ)) → List (List ℕ)
fields_after None = []
fields_after (Some after) = slice_split is_tab after.now
