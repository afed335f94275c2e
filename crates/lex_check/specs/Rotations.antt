-- The rotated paths of words, one after another.
use Rattle.std.specs.Prelude.{ℕ, zero, suc, List, [], ◌∷◌, ◌++◌, length, take, drop, slice_index_or}
use Rattle.lex_list.specs.RotatedPaths.{path_of}

-- the paths of a word for the fronts of 1 to `count` letters
unfoldable pub paths_of : List ℕ → ℕ → List (List ℕ)
paths_of word zero = []
paths_of word (suc count) = paths_of word count ++ path_of (take (suc count) word) (drop (suc count) word) ∷ []

-- the paths of the first `count` words
unfoldable pub gathered : List (List ℕ) → ℕ → List (List ℕ)
gathered words zero = []
gathered words (suc count) =
    let word = slice_index_or words count [] in
    gathered words count ++ paths_of word (length word)
