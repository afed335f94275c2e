-- A set of words that grows: a row of words, and a tree.
use Rattle.std.specs.Prelude.{ℕ, List, [], ◌∷◌}

-- the words are those of the tree, or if it has none, those of the row
abbrev pub words_of : List (List ℕ) → List (List ℕ) → List (List ℕ)
words_of row [] = row
words_of row (word ∷ words) = word ∷ words
