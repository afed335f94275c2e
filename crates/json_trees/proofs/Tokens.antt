-- The tokens of an array and of an object: those of each value or field in order, and then the end.
use Rattle.std.proofs.Common.{◌≡◌, ℕ, List, [], ◌∷◌, ◌++◌, refl, sym, ap, ◌∙◌, append_assoc}
use Rattle.std.specs.Borrow.{Bor}
use Rattle.std.specs.List.{flat_map}
use Rattle.json.specs.Token.{Token, key, end_array, end_object}
use Rattle.json.specs.Tree.{json_tokens, items_tokens, members_tokens}
use Rattle.json_trees.specs.declared.trees.Tree.{Tree}
use Rattle.json_trees.specs.Trees.{fields_view, items_view, view}
use Rattle.json_trees.specs.Values.{members_of}

abbrev pub tree_tokens : Tree → List Token
tree_tokens tree = json_tokens (view tree)

abbrev pub field_tokens : Bor (List ℕ) × Tree → List Token
field_tokens field = key field.0.now ∷ tree_tokens field.1

pub values_in_order : (values : List Tree) → items_tokens (items_view values) ≡ flat_map tree_tokens values ++ end_array ∷ []
values_in_order [] = refl
values_in_order (value ∷ values) = ap (λ ts. tree_tokens value ++ ts) (values_in_order values) ∙ sym (append_assoc (tree_tokens value) _ _)

pub fields_in_order : (fields : List (Bor (List ℕ) × Tree)) → members_tokens (members_of (fields_view fields)) ≡ flat_map field_tokens fields ++ end_object ∷ []
fields_in_order [] = refl
fields_in_order (field ∷ fields) = ap (λ ts. field_tokens field ++ ts) (fields_in_order fields) ∙ sym (append_assoc (field_tokens field) _ _)
