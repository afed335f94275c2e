-- How the rotated paths of a word are linked in a set of strings of labels.
use Rattle.std.specs.Prelude.{◌≡◌, ℕ, ◌<◌, Bool, true, List, [], ◌∷◌, ◌++◌, map}
use Rattle.lex_list.specs.RotatedPaths.{label_of, mark, after_mark}

-- labels of letters, without a mark
abbrev pub AreLetters : List ℕ → Type 0
AreLetters [] = Unit {0}
AreLetters (label ∷ labels) = (0 < label) × AreLetters labels

-- If these labels come before a mark, the label after the mark can be turned over to the front: what the set has with it after the
-- mark, it also has with it before all labels.
abbrev pub TurnsOver : (List ℕ → Bool) → List ℕ → Type 0
TurnsOver has labels = (label : ℕ) (rest : List ℕ) → has (labels ++ mark ∷ label ∷ rest) ≡ true → has (label ∷ labels ++ after_mark rest) ≡ true

-- The same for all labels of letters that begin with these.
abbrev pub TurnsOverFrom : (List ℕ → Bool) → List ℕ → Type 0
TurnsOverFrom has front = (labels : List ℕ) → AreLetters labels → TurnsOver has (front ++ labels)

-- the path of letters whose front is the first of them
abbrev pub first_path : List ℕ → List ℕ
first_path [] = []
first_path (letter ∷ letters) = label_of letter ∷ mark ∷ map label_of letters
