-- The first fault of items that are checked in order.
use Rattle.std.proofs.Common.{◌≡◌, ℕ, ◌+◌, List, [], ◌∷◌, ◌++◌, length, Option, Some, None, refl, sym, ap, ◌∙◌, subst, append_assoc, append-nil}
use Rattle.std.specs.Prelude.{option_map}
use Rattle.std.specs.Option.{option_or}
use Rattle.first_faults.specs.FirstBad.{first_bad, IsFirstBad}

-- if there is no fault, the first item has none, and the others have none
pub no_earlier : {W F : Type 0} (named : W → F) (here : Option W) (later : Option F) → option_or (option_map named here) later ≡ None → (here ≡ None) × (later ≡ None)
no_earlier named None later e = (refl, e)
no_earlier named (Some why) later e = absurd cc

module _ {X W F : Type 0} (named : ℕ → W → F) (check : List X → X → Option W) where
  -- items without a fault, and further items
  first_bad-append : (a xs ys : List X) → first_bad named check a xs ≡ None → first_bad named check a (xs ++ ys) ≡ first_bad named check (a ++ xs) ys
  first_bad-append a [] ys e = rw (append-nil a) refl
  first_bad-append a (x ∷ xs) ys e =
      let parts = no_earlier (named (length a + 1)) (check a x) (first_bad named check (a ++ x ∷ []) xs) e in
      let here : first_bad named check a (x ∷ (xs ++ ys)) ≡ first_bad named check (a ++ x ∷ []) (xs ++ ys) = rw parts.0 refl in
      here ∙ first_bad-append (a ++ x ∷ []) xs ys parts.1 ∙ ap (λ front. first_bad named check front ys) (append_assoc a (x ∷ []) xs)

  one_more_none : (before : List X) (item : X) → first_bad named check [] before ≡ None → check before item ≡ None → first_bad named check [] (before ++ item ∷ []) ≡ None
  one_more_none before item e here = first_bad-append [] before (item ∷ []) e ∙ rw here refl

  first_from : (before rest : List X) (fault : F) → first_bad named check [] before ≡ None → first_bad named check before rest ≡ Some fault
      → IsFirstBad named check (before ++ rest) fault
  first_from before [] fault none e = absurd cc
  first_from before (item ∷ rest) fault none e =
      by (check before item) refl (λ here later. first_from (before ++ item ∷ []) rest fault (one_more_none before item none here) later) e
    where
      by : (o : Option W) → check before item ≡ o
          → (check before item ≡ None → first_bad named check (before ++ item ∷ []) rest ≡ Some fault → IsFirstBad named check ((before ++ item ∷ []) ++ rest) fault)
          → option_or (option_map (named (length before + 1)) o) (first_bad named check (before ++ item ∷ []) rest) ≡ Some fault
          → IsFirstBad named check (before ++ item ∷ rest) fault
      by None here later e = subst (λ items. IsFirstBad named check items fault) (append_assoc before (item ∷ []) rest) (later here e)
      by (Some why) here later e =
          let is : named (length before + 1) why ≡ fault = cc in
          record { before = before; item = item; following = rest; why = why; whole = refl; earlier = none; fails = here; is = sym is }

  -- the first fault of items is that of the first item with one
  pub first_bad-is : (items : List X) (fault : F) → first_bad named check [] items ≡ Some fault → IsFirstBad named check items fault
  first_bad-is items fault e = first_from [] items fault refl e

  -- if the items so far have the fault of all items, and no more are left, they are all of them, and none has a fault
  pub none_remaining : (items before following : List X) → following ≡ [] → first_bad named check before following ≡ first_bad named check [] items → before ++ following ≡ items
      → (first_bad named check [] items ≡ None) × (before ≡ items)
  none_remaining items before following none same whole = (
    sym same ∙ ap (first_bad named check before) none,
    sym (append-nil before) ∙ ap (λ rest. before ++ rest) (sym none) ∙ whole,
  )
