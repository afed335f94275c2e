-- The order of strings of labels.
use Rattle.std.specs.Prelude.{◌≡◌, ℕ, ◌<◌, Bool, true, false, List, [], ◌∷◌, ◌⊎◌}

-- A string is before another: it is a shorter front of it, or after a common front its next label is the lower one.
abbrev pub IsBefore : List ℕ → List ℕ → Type 0
IsBefore string [] = ⊥
IsBefore [] (label ∷ path) = Unit {0}
IsBefore (first ∷ string) (label ∷ path) = (first < label) ⊎ ((first ≡ label) × IsBefore string path)

-- a string is the first of a set, which is given by a test
pub record IsLeast (has : List ℕ → Bool) (path : List ℕ) : Type 0 where
  pub holds : has path ≡ true
  pub first : (string : List ℕ) → IsBefore string path → has string ≡ false
