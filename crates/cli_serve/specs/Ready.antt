-- The line that says that requests can be asked.
use Rattle.std.specs.Prelude.{ℕ, true, List, [], ◌∷◌, codes}
use Rattle.json.specs.Json.{Json, boolean, string}
use Rattle.json_trees.specs.Values.{Field, count, object_of}

-- how many words the list has, and the version of the program
abbrev pub ready_fields : (words : ℕ) → (version : List ℕ) → List Field
ready_fields words version =
    (codes "ready", boolean true)
    ∷ (codes "words", count words)
    ∷ (codes "version", string version)
    ∷ []

abbrev pub ready_object : (words : ℕ) → (version : List ℕ) → Json
ready_object words version = object_of (ready_fields words version)
