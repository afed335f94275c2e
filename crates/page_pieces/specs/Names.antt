-- The name of the page of a game, as a path in the folder of the pages.
use Rattle.std.specs.Prelude.{ℕ, ◌-◌, Bool, true, false, not, ◌==◌, ◌&&◌, List, [], ◌∷◌, ◌++◌, length, take, codes, Option, Some, None, if◌then◌else◌}
use Rattle.std.specs.Borrow.{Bor}
use Rattle.std.specs.List.{flat_map, slice_split, starts_with, ends_with}

-- / (47) separates the name of a file from those of its folders
abbrev pub is_slash : ℕ → Bool
is_slash byte = byte == 47

-- the names of the folders, and of the file
abbrev pub parts_of : List ℕ → List (List ℕ)
parts_of name = slice_split is_slash name

-- the parts of what is after a slash
abbrev pub parts_after : Option (Bor (List ℕ)) → List (List ℕ)
parts_after None = []
parts_after (Some after) = parts_of after.now

-- % (37) is written %25
abbrev pub escaped_byte : ℕ → List ℕ
escaped_byte byte = if byte == 37 then codes "%25" else byte ∷ []

unfoldable pub escaped : List ℕ → List ℕ
escaped text = flat_map escaped_byte text

-- no name, or . (46) or .., which name no folder of their own
abbrev pub is_step : List ℕ → Bool
is_step [] = true
is_step (a ∷ []) = a == 46
is_step (a ∷ b ∷ []) = a == 46 && b == 46
is_step (a ∷ b ∷ c ∷ rest) = false

-- a folder of the pages: % before what names none of its own
unfoldable pub folder_text : List ℕ → List ℕ
folder_text part = if is_step part then 37 ∷ part else escaped part

-- a file whose ending is left out: that of a record, except for what would be the page `index.html`
unfoldable pub has_ending : List ℕ → Bool
has_ending part = ends_with ◌==◌ part (codes ".gcg") && not (starts_with ◌==◌ part (codes "index.gcg"))

-- a page: the name without its ending, or the whole name and a %
unfoldable pub page_text : List ℕ → List ℕ
page_text part = if has_ending part then escaped (take (length part - 4) part) ++ codes ".html" else escaped part ++ codes "%.html"

-- the path of a page, by the parts of the name of its game
abbrev pub page_path : List (List ℕ) → List ℕ
page_path [] = []
page_path (part ∷ []) = page_text part
page_path (part ∷ next ∷ parts) = folder_text part ++ 47 ∷ page_path (next ∷ parts)

unfoldable pub page_name : List ℕ → List ℕ
page_name name = page_path (parts_of name)
