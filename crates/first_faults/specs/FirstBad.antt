-- Items that are checked in order, each given those before it: the first with a fault.
use Rattle.std.specs.Prelude.{◌≡◌, ℕ, ◌+◌, List, [], ◌∷◌, ◌++◌, length, Option, Some, None, option_map}
use Rattle.std.specs.Option.{option_or}

-- `check` says what is wrong with an item after the items before it, and `named` makes the fault from that and the number of the
-- item, counted from 1.
module _ {X W F : Type 0} (named : ℕ → W → F) (check : List X → X → Option W) where
  -- the first fault of further items; the items before them have none
  abbrev pub first_bad : List X → List X → Option F
  first_bad before [] = None
  first_bad before (item ∷ rest) =
      option_or (option_map (named (length before + 1)) (check before item)) (first_bad (before ++ item ∷ []) rest)

  -- An item is the first with a fault: the items before it have none, and after them it has this one.
  pub record IsFirstBad (items : List X) (fault : F) : Type 0 where
    pub before : List X
    pub item : X
    pub following : List X
    pub why : W
    pub whole : before ++ item ∷ following ≡ items
    pub earlier : first_bad [] before ≡ None
    pub fails : check before item ≡ Some why
    pub is : fault ≡ named (length before + 1) why
