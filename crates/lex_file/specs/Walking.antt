-- The strings that a walk over a lexicon still allows, after a step.
use Rattle.std.specs.Prelude.{ℕ, Bool, false, List, [], ◌∷◌, Option, Some, None}
use Rattle.lex_file.specs.declared.lexicons.Step.{Step}

-- the longer strings: those of the next node, if there is one
abbrev pub next_strings : {N : Type 0} → (N → List ℕ → Bool) → Option N → List ℕ → Bool
next_strings tail None t = false
next_strings tail (Some n) t = tail n t

-- the strings that a step still allows: the empty one if it accepts
abbrev pub strings : {N : Type 0} → (N → List ℕ → Bool) → Step N → List ℕ → Bool
strings tail s [] = s.accepts
strings tail s (b ∷ t) = next_strings tail s.next (b ∷ t)

-- the next node is one of the lexicon's
abbrev pub IsOpen : {N : Type 0} → (N → Type 0) → Option N → Type 0
IsOpen is_node None = Unit {0}
IsOpen is_node (Some n) = is_node n
