-- The value of an object, by its fields.
use Rattle.std.proofs.Common.{◌≡◌, ℕ, List, map, ap, ◌∙◌, rules, Vec}
use Rattle.std.specs.Borrow.{Bor}
use Rattle.std.specs.declared.alloc.Global.{Global}
use mathlib.Core.List.{map-map}
use Rattle.json_trees.specs.declared.trees.Tree.{Tree, Array, Object, the_lemmas}
use Rattle.json_trees.specs.Trees.{field_of, fields_view, view}
use Rattle.json_trees.specs.Values.{array_of, object_of}

pub view_of_array : (values : Vec Tree Global) → view (Array values) ≡ array_of (map view values.items)
view_of_array values = search (rules, the_lemmas)

pub view_of_object : (fields : Vec (Bor (List ℕ) × Tree) Global) → view (Object fields) ≡ object_of (fields_view fields.items)
view_of_object fields =
    let opened : view (Object fields) ≡ object_of (map field_of (map (λ field. (field.0, view field.1)) fields.items)) = search (rules, the_lemmas) in
    opened ∙ ap object_of (map-map field_of (λ field. (field.0, view field.1)) fields.items)
