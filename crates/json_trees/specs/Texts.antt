-- The text of a JSON value.
use Rattle.std.specs.Prelude.{ℕ, List, [], ◌∷◌, ◌++◌}
use Rattle.json.specs.Json.{Json}
use Rattle.json.specs.Print.{print}
use Rattle.json.specs.Tree.{json_tokens}

-- its tokens one after the other: a comma between two values, no space, and in a text only the escapes that JSON requires
abbrev pub json_text : Json → List ℕ
json_text value = print (json_tokens value)

-- its text and an LF
abbrev pub json_line : Json → List ℕ
json_line value = json_text value ++ 10 ∷ []
