-- Two nodes that are walked together: the first label from one on with which a tail of either begins, and what comes after it in each.
use Rattle.std.specs.Prelude.{◌≡◌, ℕ, ◌<◌, ◌≤◌, Bool, false, ◌==◌, List, [], ◌∷◌, Option, Some, None, if◌then◌else◌}
use Rattle.lex_file.specs.Lexicons.{NextGives}
use Rattle.lex_file.specs.declared.lexicons.Step.{Step}
use Rattle.lex_file.specs.declared.lexicons.Branch.{Branch}

-- no tail begins with the label
abbrev pub nothing : {N : Type 0} → Step N
nothing = record { accepts = false; next = None }

-- the label of a branch; if there is none, 27, which is above all labels
abbrev pub label_or_end : {N : Type 0} → Option (Branch N) → ℕ
label_or_end None = 27
label_or_end (Some branch) = branch.label

-- what follows a label, if a branch is the first from some label on, and not below this one
abbrev pub step_at : {N : Type 0} → Option (Branch N) → ℕ → Step N
step_at None label = nothing
step_at (Some branch) label = if branch.label == label then branch.step else nothing

-- A step says what follows a label of a node: whether the label alone is a tail, and the node of the longer ones.
pub record StandsAfter {N : Type 0} (is_node : N → Type 0) (tail : N → List ℕ → Bool) (height : N → ℕ) (node : N) (label : ℕ) (step : Step N) : Type 0 where
  pub accepts : step.accepts ≡ tail node (label ∷ [])
  pub next : NextGives is_node tail height node label step.next

-- two sets have the same strings that begin with a label from one on and below another
abbrev pub AreSameBetween : (List ℕ → Bool) → (List ℕ → Bool) → ℕ → ℕ → Type 0
AreSameBetween file list from to = (label : ℕ) (rest : List ℕ) → from ≤ label → label < to → file (label ∷ rest) ≡ list (label ∷ rest)
