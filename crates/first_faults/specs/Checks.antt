-- Checks in order: the first that fails is the fault.
use Rattle.std.specs.Prelude.{◌≡◌, Bool, true, false, List, [], ◌∷◌, Option, Some, None, Result, Ok, Err}

-- a check that fails if the test holds
abbrev pub fails : {F : Type 0} → Bool → F → Option F
fails true fault = Some fault
fails false fault = None

-- a check that fails if the test does not hold
abbrev pub passes : {F : Type 0} → Bool → F → Option F
passes true fault = None
passes false fault = Some fault

-- the fault of the first check that fails
abbrev pub first_fault : {F : Type 0} → List (Option F) → Option F
first_fault [] = None
first_fault (None ∷ checks) = first_fault checks
first_fault (Some fault ∷ checks) = Some fault

-- the answer is Ok exactly when there is no fault, and otherwise is that fault
abbrev pub Refuses : {A F : Type 0} → Result A F → Option F → Type 0
Refuses (Ok _) fault = fault ≡ None
Refuses (Err here) fault = fault ≡ Some here

-- the value, or the fault, if there is one
abbrev pub or_fault : {A F : Type 0} → Option F → A → Result A F
or_fault None x = Ok x
or_fault (Some fault) x = Err fault
