-- Where a walk over a file is, as the strings that it still allows.
use Rattle.std.specs.Prelude.{◌≡◌, ℕ, ◌<◌, ◌≤◌, Bool, true, false, List, [], ◌∷◌, ◌++◌, length, take, slice_index_or, Option, None, IsTrue}
use Rattle.lex_file.specs.declared.files.Node.{Node}
use Rattle.lex_file.specs.declared.lexicons.Step.{Step}
use Rattle.lex_file.specs.Files.{number_of}
use Rattle.lex_file.specs.Languages.{file_tail, language_of}
use Rattle.lex_file.specs.Lexicons.{NextGives}
use Rattle.lex_file.specs.Shapes.{is_file_node}
use Rattle.lex_file.specs.Walking.{strings, IsOpen}
use Rattle.lex_agree.specs.Chains.{first_path}
use Rattle.lex_agree.specs.declared.kept.Kept.{Kept}

-- the tails of a node of a file
abbrev pub node_tail : List ℕ → Node → List ℕ → Bool
node_tail bytes node string = file_tail bytes (number_of node) string

-- a node is one of a file
abbrev pub IsNodeOf : List ℕ → Node → Type 0
IsNodeOf bytes node = IsTrue (is_file_node bytes (number_of node))

-- what continues after the label of a branch
abbrev pub Leads : List ℕ → Node → ℕ → Option Node → Type 0
Leads bytes node label next =
    NextGives (λ (n : Node). IsTrue (is_file_node bytes (number_of n))) (λ (n : Node) (string : List ℕ). file_tail bytes (number_of n) string) (λ (n : Node). number_of n)
    node label next

-- a step after which nothing continues
abbrev pub no_step : Step Node
no_step = record { accepts = false; next = None }

-- a step comes after some labels of a file: it allows what the file's strings have after them
pub record IsStepAt (bytes labels : List ℕ) (step : Step Node) : Type 0 where
  pub open_there : IsOpen (IsNodeOf bytes) step.next
  pub strings_there : (rest : List ℕ) → language_of bytes (labels ++ rest) ≡ strings (node_tail bytes) step rest

-- a node comes after some labels of a file: its tails are what the file's strings have after them
pub record IsNodeAt (bytes labels : List ℕ) (node : Node) : Type 0 where
  pub node_there : IsNodeOf bytes node
  pub tails_there : (after : ℕ) (rest : List ℕ) → language_of bytes (labels ++ after ∷ rest) ≡ file_tail bytes (number_of node) (after ∷ rest)

-- Steps over the path of a word whose front is its first letter: at each place up to `count` is the one after that number of letters.
pub record AreSteps (bytes word : List ℕ) (count : ℕ) (steps : List (Step Node)) : Type 0 where
  pub room : length steps ≡ 16
  pub each : (split : ℕ) → split ≤ count → IsStepAt bytes (first_path (take split word)) (slice_index_or steps split no_step)

-- after the first letter there is a mark to pass
pub record IsPast (bytes : List ℕ) (first : Bool) (step past : Step Node) : Type 0 where
  pub open_there : IsOpen (IsNodeOf bytes) past.next
  pub marked : first ≡ true → (rest : List ℕ) → strings (node_tail bytes) step (0 ∷ rest) ≡ strings (node_tail bytes) past rest
  pub other : first ≡ false → past ≡ step

-- two words have the first `count` letters in common
pub record AreAlike (one other : List ℕ) (count : ℕ) : Type 0 where
  pub in_one : count ≤ length one
  pub in_other : count ≤ length other
  pub alike : take count one ≡ take count other

-- The steps after a label and the first labels of a front: at each place up to a count is the one after that number of labels.
pub record AreTurned (bytes : List ℕ) (first : ℕ) (front : List ℕ) (count : ℕ) (steps : List (Step Node)) : Type 0 where
  pub room : length steps ≡ 16
  pub each : (split : ℕ) → split ≤ count → IsStepAt bytes (first ∷ take split front) (slice_index_or steps split no_step)

-- What is kept for a label: each step that is known is that after the label and the first labels of the front.
pub record IsKept (bytes : List ℕ) (first : ℕ) (kept : Kept) : Type 0 where
  pub letters : length kept.front ≡ 15
  pub room : length kept.steps ≡ 16
  pub few : kept.known ≤ 16
  pub each : (split : ℕ) → split < kept.known → IsStepAt bytes (first ∷ take split kept.front) (slice_index_or kept.steps split no_step)

-- nothing is kept
abbrev pub no_kept : Kept
no_kept = record { front = []; known = 0; steps = [] }

-- something is kept for each label
pub record AreKept (bytes : List ℕ) (kept : List Kept) : Type 0 where
  pub room : length kept ≡ 27
  pub each : (label : ℕ) → label < 27 → IsKept bytes label (slice_index_or kept label no_kept)
