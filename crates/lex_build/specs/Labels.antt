-- The number of labels of the strings of a set together, each string counted once.
use Rattle.std.specs.Prelude.{◌≡◌, ℕ, ◌≤◌, Bool, true, List, [], ◌∷◌, length}
use Rattle.std.specs.List.{Contains, sum_by}

-- no string occurs twice
abbrev pub AreApart : List (List ℕ) → Type 0
AreApart [] = Unit {0}
AreApart (string ∷ strings) = (Contains strings string → ⊥) × AreApart strings

-- some strings of the set, each once, have together at least this number of labels
pub record HasLabels (has : List ℕ → Bool) (count : ℕ) : Type 0 where
  pub strings : List (List ℕ)
  pub each : (string : List ℕ) → Contains strings string → has string ≡ true
  pub once : AreApart strings
  pub enough : count ≤ sum_by length strings
