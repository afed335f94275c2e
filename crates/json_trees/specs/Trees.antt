-- The JSON value that a tree is.
use Rattle.std.specs.Prelude.{ℕ, List, map, string_bytes}
use Rattle.std.specs.Borrow.{Bor}
use Rattle.json.specs.Json.{Json, null, boolean, string, Items}
use Rattle.json_trees.specs.declared.trees.Tree.{Tree, fold-Tree}
use Rattle.json_trees.specs.declared.trees.Tree.TheOpen.{Tree-F}
use Rattle.json_trees.specs.Values.{count, integer, items_of, array_of, Field, object_of}

-- the field of a key and a value
abbrev pub field_of : Bor (List ℕ) × Json → Field
field_of field = (field.0.now, field.1)

-- one level, with each tree inside already seen as its value
abbrev pub view_step : Tree-F Json → Json
view_step Tree-F.Null = null
view_step (Tree-F.Bool value) = boolean value
view_step (Tree-F.Count n) = count n
view_step (Tree-F.Integer n) = integer n
view_step (Tree-F.Wide n) = count n
view_step (Tree-F.Name name) = string name.now
view_step (Tree-F.Text text) = string (string_bytes text)
view_step (Tree-F.Array values) = array_of values.items
view_step (Tree-F.Object fields) = object_of (map field_of fields.items)

abbrev pub view : Tree → Json
view = fold-Tree Json view_step

abbrev pub items_view : List Tree → Items
items_view values = items_of (map view values)

abbrev pub field_view : Bor (List ℕ) × Tree → Field
field_view field = (field.0.now, view field.1)

abbrev pub fields_view : List (Bor (List ℕ) × Tree) → List Field
fields_view fields = map field_view fields
