-- What follows if none of the checks fails, or if one is the first that does.
use Rattle.std.proofs.Common.{◌≡◌, Bool, true, false, List, [], ◌∷◌, ◌++◌, Option, Some, None, Ok, Err, refl, ap, sym, ◌∙◌}
use Rattle.std.specs.Option.{option_or, option_map}
use Rattle.std.proofs.lemmas.List.Elements.{All-nil, All-cons, All-head, All-tail}
use Rattle.first_faults.specs.Checks.{fails, passes, first_fault, or_fault}
use Rattle.first_faults.specs.Laws.{IsFirstFault, NoFaultIsNowhere, FaultIsFirst}

-- a fault is not none
pub some_fault : {F : Type 0} (fault : F) → Some fault ≡ None → ⊥
some_fault fault e = cc

-- if no check of a list fails, neither the first nor any of the others does
pub none_first : {F : Type 0} (check : Option F) (checks : List (Option F)) → first_fault (check ∷ checks) ≡ None → (check ≡ None) × (first_fault checks ≡ None)
none_first None checks e = (refl, e)
none_first (Some fault) checks e = absurd (some_fault fault e)

-- the test of a check that does not fail, for a check that fails if the test holds
pub test_fails : {F : Type 0} (test : Bool) (fault : F) → fails test fault ≡ None → test ≡ false
test_fails true fault e = absurd (some_fault fault e)
test_fails false fault e = refl

-- the same for the first check of a list of which none fails
pub check-none : {F : Type 0} (test : Bool) (fault : F) (rest : List (Option F)) → first_fault (fails test fault ∷ rest) ≡ None → (test ≡ false) × (first_fault rest ≡ None)
check-none true fault rest e = absurd (some_fault fault e)
check-none false fault rest e = (refl, e)

-- the converse
pub check-from : {F : Type 0} (test : Bool) (fault : F) (rest : List (Option F)) → test ≡ false → first_fault rest ≡ None → first_fault (fails test fault ∷ rest) ≡ None
check-from true fault rest holds e = cc
check-from false fault rest holds e = e

-- the same for a first check that fails if the test does not hold
pub checked : {F : Type 0} (test : Bool) (fault : F) (rest : List (Option F)) → first_fault (passes test fault ∷ rest) ≡ None → (test ≡ true) × (first_fault rest ≡ None)
checked true fault rest e = (refl, e)
checked false fault rest e = absurd (some_fault fault e)

-- if there is neither of two faults, there is not the first, and not the second
pub or_none : {F : Type 0} (a b : Option F) → option_or a b ≡ None → (a ≡ None) × (b ≡ None)
or_none None b e = (refl, e)
or_none (Some fault) b e = absurd (some_fault fault e)

-- if a value is given and a check is named as a fault, the check did not fail
pub or_fault_none : {W F A : Type 0} (named : W → F) (check : Option W) (x y : A) → or_fault (option_map named check) x ≡ Ok y → (check ≡ None) × (x ≡ y)
or_fault_none named None x y e = (refl, cc)
or_fault_none named (Some fault) x y e = absurd cc

-- if a fault is given in place of a value, it is that of the check
pub or_fault_some : {F A : Type 0} (check : Option F) (x : A) (fault : F) → or_fault check x ≡ Err fault → check ≡ Some fault
or_fault_some None x fault e = absurd cc
or_fault_some (Some other) x fault e = cc

-- ---- the first fault

pub nowhere : {F : Type 0} → NoFaultIsNowhere F
nowhere {F} [] = (λ _. All-nil (λ (check : Option F). check ≡ None), λ _. refl)
nowhere {F} (None ∷ checks) =
    let rest = nowhere checks in
    let P = λ (check : Option F). check ≡ None in (
      λ e. All-cons P None checks refl (rest.0 e),
      λ all. rest.1 (All-tail P None checks all),
    )
nowhere {F} (Some fault ∷ checks) = (
  λ e. absurd (some_fault fault e),
  λ all. absurd (some_fault fault (All-head (λ (check : Option F). check ≡ None) (Some fault) checks all)),
)

first_after : {F : Type 0} (before following : List (Option F)) (fault : F) → first_fault before ≡ None → first_fault (before ++ Some fault ∷ following) ≡ Some fault
first_after [] following fault e = refl
first_after (None ∷ before) following fault e = first_after before following fault e
first_after (Some other ∷ before) following fault e = absurd (some_fault other e)

first_is : {F : Type 0} (checks : List (Option F)) (fault : F) → first_fault checks ≡ Some fault → IsFirstFault checks fault
first_is [] fault e = cc
first_is {F} (None ∷ checks) fault e =
    let rest = first_is checks fault e in
    record {
      before = None ∷ rest.before;
      following = rest.following;
      whole = ap (λ (xs : List (Option F)). None ∷ xs) rest.whole;
      earlier = All-cons (λ (check : Option F). check ≡ None) None rest.before refl rest.earlier;
    }
first_is {F} (Some other ∷ checks) fault e =
    record { before = []; following = checks; whole = ap (λ (check : Option F). check ∷ checks) (sym e); earlier = All-nil (λ (check : Option F). check ≡ None) }

pub first : {F : Type 0} → FaultIsFirst F
first {F} checks fault = (
  λ e. first_is checks fault e,
  λ is. ap first_fault (sym is.whole) ∙ first_after is.before is.following fault ((nowhere is.before).1 is.earlier),
)
