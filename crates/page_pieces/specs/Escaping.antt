-- A text as text of an HTML page.
use Rattle.std.specs.Prelude.{ℕ, ◌==◌, List, codes, if◌then◌else◌, [], ◌∷◌}
use Rattle.std.specs.List.{flat_map}

-- the written form of a byte: & (38), < (60), > (62), " (34) and ' (39) by their names
unfoldable pub written : ℕ → List ℕ
written byte =
    if byte == 38 then codes "&amp;"
    else if byte == 60 then codes "&lt;"
    else if byte == 62 then codes "&gt;"
    else if byte == 34 then codes "&quot;"
    else if byte == 39 then codes "&#39;"
    else byte ∷ []

-- the written form of a text
abbrev pub html_text : List ℕ → List ℕ
html_text text = flat_map written text
