-- What the first fault of a list of checks is, put differently.
use Rattle.std.specs.Prelude.{◌≡◌, ◌↔◌, List, ◌∷◌, ◌++◌, Option, Some, None, All}
use Rattle.first_faults.specs.Checks.{first_fault}

-- none of these checks has a fault
abbrev pub HaveNoFault : {F : Type 0} → List (Option F) → Type 0
HaveNoFault {F} checks = All (λ (check : Option F). check ≡ None) checks

-- a check has this fault, and those before it have none
pub record IsFirstFault {F : Type 0} (checks : List (Option F)) (fault : F) : Type 0 where
  pub before : List (Option F)
  pub following : List (Option F)
  pub whole : before ++ Some fault ∷ following ≡ checks
  pub earlier : HaveNoFault before

-- there is no first fault exactly when no check has a fault
abbrev pub NoFaultIsNowhere : Type 0 → Type 0
NoFaultIsNowhere F = (checks : List (Option F)) → (first_fault checks ≡ None) ↔ HaveNoFault checks

-- the first fault is that of the first check that has one
abbrev pub FaultIsFirst : Type 0 → Type 0
FaultIsFirst F = (checks : List (Option F)) (fault : F) → (first_fault checks ≡ Some fault) ↔ IsFirstFault checks fault
