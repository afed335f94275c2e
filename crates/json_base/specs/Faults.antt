-- Faults as objects.
use Rattle.std.specs.Prelude.{ℕ, List, [], ◌∷◌, ◌++◌, ◌==◌, codes, Option, Some, None, option_map, if◌then◌else◌}
use Rattle.arrayvec.specs.ArrayVec.{ArrayVec}
use Rattle.json.specs.Json.{Json, string}
use Rattle.json_trees.specs.Values.{Field, count, field_if, integer, object_of, or_null, text}
use Rattle.ref_tiles.specs.declared.kinds.Kind.{Kind}
use Rattle.ref_tiles.specs.Kinds.{kind_byte}
use Rattle.engine_faults.specs.declared.named.NamedFault.{NamedFault}
use Rattle.engine_faults.specs.Named.{named_fault}
use Rattle.engine_faults.specs.Names.{name_text}
use Rattle.engine_stages.specs.declared.verdicts.GameFault.{GameFault}

-- a kind of tile: a capital, or '?' for a blank
abbrev pub tile_value : Kind → Json
tile_value kind = text (kind_byte kind ∷ [])

-- its name, and if it has one, the number that was expected or the kind of tile that is short
abbrev pub named_fields : NamedFault → List Field
named_fields named =
    ((codes "name", string (name_text named.name)) ∷ field_if (codes "expected") (option_map integer named.expected))
    ++ field_if (codes "tile") (option_map tile_value named.kind)

-- the fault of a game
abbrev pub game_fault_object : GameFault → Json
game_fault_object fault = object_of (named_fields (named_fault fault))

-- the bytes of a path
abbrev pub bytes_in : Option (ArrayVec ℕ) → Option (List ℕ)
bytes_in = option_map (λ it. it.items)

-- a fault of an input by its name, with the path of the first difference between a lexicon and a list if it has one
abbrev pub input_fields : (name : List ℕ) → (path : Option (List ℕ)) → List Field
input_fields name path = (codes "name", string name) ∷ field_if (codes "path") (option_map text path)

abbrev pub input_object : (path : Option (List ℕ)) → (name : List ℕ) → Json
input_object path name = object_of (input_fields name path)

-- the fault of an input, or null if it has no name
abbrev pub input_fault_value : (name : Option (List ℕ)) → (path : Option (List ℕ)) → Json
input_fault_value name path = or_null (option_map (input_object path) name)

-- a fault by its name alone
abbrev pub bare_fault_object : (name : List ℕ) → Json
bare_fault_object name = object_of ((codes "name", string name) ∷ [])

-- a line, counted from 1; null for 0, which is no line
abbrev pub line_value : ℕ → Json
line_value line = or_null (option_map count (if line == 0 then None else Some line))
