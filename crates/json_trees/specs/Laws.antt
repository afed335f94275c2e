-- What holds of the text of each tree.
use Rattle.std.specs.Prelude.{◌≡◌, ℕ, Bool, true, not, nat_lt}
use Rattle.std.specs.List.{list_all}
use Rattle.json_trees.specs.declared.trees.Tree.{Tree}
use Rattle.json_trees.specs.Texts.{json_text}
use Rattle.json_trees.specs.Trees.{view}

-- the byte is not a control character
abbrev pub is_shown : ℕ → Bool
is_shown byte = not (nat_lt byte 32)

-- no control character is in it, so it is one line
abbrev pub IsOneLine : Type 0
IsOneLine = (tree : Tree) → list_all is_shown (json_text (view tree)) ≡ true
