-- What a lexicon that is walked label by label gives at a step. A node has a set of tails, given by a test on strings.
use Rattle.std.specs.Prelude.{◌≡◌, ◌⊎◌, ℕ, ◌<◌, nat_lt, Bool, true, false, List, ◌∷◌, Option, Some, None}

-- the mark or a letter
abbrev pub is_label : ℕ → Bool
is_label label = nat_lt label 27

-- no tail of the node begins with the label
abbrev pub NoTail : {N : Type 0} → (N → List ℕ → Bool) → N → ℕ → Type 0
NoTail tail node label = (rest : List ℕ) → tail node (label ∷ rest) ≡ false

-- no tail of the node continues after the label
abbrev pub NoLonger : {N : Type 0} → (N → List ℕ → Bool) → N → ℕ → Type 0
NoLonger tail node label = (after : ℕ) (rest : List ℕ) → tail node (label ∷ after ∷ rest) ≡ false

-- The node after a label: its tails are those of the longer tails that begin with the label, without it; there is at least one; and
-- its height is less.
pub record IsAfter {N : Type 0} (is_node : N → Type 0) (tail : N → List ℕ → Bool) (height : N → ℕ) (before : N) (label : ℕ) (next : N) : Type 0 where
  pub node : is_node next
  pub tails : (after : ℕ) (rest : List ℕ) → tail before (label ∷ after ∷ rest) ≡ tail next (after ∷ rest)
  pub some : (after : ℕ) × (rest : List ℕ) × (tail next (after ∷ rest) ≡ true)
  pub falls : height next < height before

-- what a step leads to: a node after the label, exactly when some longer tail begins with it
abbrev pub NextGives : {N : Type 0} → (N → Type 0) → (N → List ℕ → Bool) → (N → ℕ) → N → ℕ → Option N → Type 0
NextGives is_node tail height node label None = NoLonger tail node label
NextGives is_node tail height node label (Some next) = IsAfter is_node tail height node label next

-- Where a walk over the labels of a node from one on may continue: the node itself, or what is left of it.
abbrev pub IsRemaining : {N : Type 0} → (N → ℕ → N → Type 0) → N → ℕ → N → Type 0
IsRemaining is_rest node from rest = (rest ≡ node) ⊎ is_rest node from rest
