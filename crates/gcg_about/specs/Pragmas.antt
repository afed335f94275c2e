-- What a line says after its first word.
use Rattle.std.specs.Prelude.{ℕ, ◌==◌, List, [], ◌∷◌, length, drop, Option, Some, None, if◌then◌else◌}
use Rattle.std.specs.List.{prefix_len, before_first, after_first}
use Rattle.std.specs.Str.{bytes_eq}
use Rattle.text_lines.specs.Fields.{is_blank}

-- the text without the blanks at its front
abbrev pub front_trimmed : List ℕ → List ℕ
front_trimmed text = drop (prefix_len is_blank text) text

-- the same, if something is left
unfoldable pub filled : List ℕ → Option (List ℕ)
filled text = if length (front_trimmed text) == 0 then None else Some (front_trimmed text)

-- what a line says after a word and a blank; nothing if it begins with another word
unfoldable pub said : (word line : List ℕ) → Option (List ℕ)
said word line = if bytes_eq (before_first is_blank line) word then filled (after_first is_blank line) else None

-- the first of two, if it is there
abbrev pub or_else : Option (List ℕ) → Option (List ℕ) → Option (List ℕ)
or_else None other = other
or_else (Some text) other = Some text

-- what the first line that says something after a word says there
unfoldable pub first_said : (word : List ℕ) → List (List ℕ) → Option (List ℕ)
first_said word [] = None
first_said word (line ∷ lines) = or_else (said word line) (first_said word lines)
