-- The cheapest of the first repairs of some choices.
use Rattle.std.specs.Prelude.{◌≡◌, ℕ, ◌<◌, ◌≤◌, List, Option, Some, None}
use Rattle.compare_repaired.specs.Repaired.{cost_at}
use Rattle.compare_repaired.specs.declared.repaired.RepairedChoice.{RepairedChoice}
use Rattle.compare_repaired.specs.declared.best.Least.{Least}

-- the first repair of the choice with a number has this cost, and those of the choices before a place cost no less
pub record IsLeast (tried : List RepairedChoice) (end : ℕ) (l : Least) : Type 0 where
  pub there : cost_at tried l.index ≡ Some l.cost
  pub least : (place cost : ℕ) → place < end → cost_at tried place ≡ Some cost → l.cost ≤ cost

-- the same, if one of the choices before a place has a repair
abbrev pub IsLeastTo : (tried : List RepairedChoice) → (end : ℕ) → Option Least → Type 0
IsLeastTo tried end None = (place cost : ℕ) → place < end → cost_at tried place ≡ Some cost → ⊥
IsLeastTo tried end (Some l) = IsLeast tried end l
