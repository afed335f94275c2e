-- The first difference of two sets of strings of labels, each given by a test: that of the file and that of the list.
use Rattle.std.specs.Prelude.{◌≡◌, ℕ, ◌<◌, Bool, true, false, List, ◌∷◌, ◌++◌, length, ◌⊎◌}
use Rattle.lex_check.specs.declared.differences.Difference.{Difference}
use Rattle.lex_check.specs.declared.differences.Difference.TheVariants.{Missing, Extra}
use Rattle.lex_check.specs.Orders.{IsBefore}

-- some string of the set begins with this front
pub record Begins (has : List ℕ → Bool) (front : List ℕ) : Type 0 where
  pub rest : List ℕ
  pub holds : has (front ++ rest) ≡ true

-- no string of the set begins with this front
abbrev pub BeginsNone : (List ℕ → Bool) → List ℕ → Type 0
BeginsNone has front = (rest : List ℕ) → has (front ++ rest) ≡ false

-- a path of the list that the file does not have
pub record IsMissing (file list : List ℕ → Bool) (path : List ℕ) : Type 0 where
  pub absent : file path ≡ false
  pub listed : list path ≡ true

-- A string that the file has and the list does not have, or one that begins a string of the file and no string of the list. Each
-- shorter front of it that is not empty begins a string of the list.
pub record IsExtra (file list : List ℕ → Bool) (path : List ℕ) : Type 0 where
  pub extra : ((file path ≡ true) × (list path ≡ false)) ⊎ (Begins file path × BeginsNone list path)
  pub known : (front back : List ℕ) → path ≡ front ++ back → 0 < length front → 0 < length back → Begins list front

-- the path of a difference
abbrev pub path_of : Difference → List ℕ
path_of (Missing path) = path.items
path_of (Extra path) = path.items

-- the file and the list differ here
abbrev pub Differs : (List ℕ → Bool) → (List ℕ → Bool) → Difference → Type 0
Differs file list (Missing path) = IsMissing file list path.items
Differs file list (Extra path) = IsExtra file list path.items

-- the first difference: the file and the list differ here, and agree on every string before it
pub record IsFirstDifference (file list : List ℕ → Bool) (difference : Difference) : Type 0 where
  pub some : 0 < length (path_of difference)
  pub differs : Differs file list difference
  pub agree : (string : List ℕ) → IsBefore string (path_of difference) → file string ≡ list string

-- the same difference with a label in front
abbrev pub IsLonger : ℕ → Difference → Difference → Type 0
IsLonger label (Missing path) (Missing longer) = longer.items ≡ label ∷ path.items
IsLonger label (Extra path) (Extra longer) = longer.items ≡ label ∷ path.items
IsLonger label (Missing path) (Extra longer) = ⊥
IsLonger label (Extra path) (Missing longer) = ⊥
