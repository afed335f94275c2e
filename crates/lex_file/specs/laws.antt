-- Laws of the definitions that contracts cite.
pub mod Graphs
pub mod Nodes
pub mod Masks
pub mod Files
use Rattle.std.specs.Prelude.{◌≡◌, ◌⊎◌, ℕ, ◌+◌, ◌<◌, ◌≤◌, true, List, length, IsTrue, is_none, ◌↔◌}
use Rattle.lex_file.specs.Nodes.{node_at, is_first, start_at}
use Rattle.lex_file.specs.Shapes.{leads_back, fault_of, file_node, is_file_node}
use Rattle.lex_file.specs.Languages.{IsSpelt, IsInLanguage, file_tail, language_of}

-- the language of a file, by the recursion and by arcs
abbrev pub LanguageIsSpelt : Type 0
LanguageIsSpelt = (bytes : List ℕ) → IsTrue (is_none (fault_of bytes)) → (string : List ℕ) → IsTrue (language_of bytes string) ↔ IsInLanguage bytes string

-- the tails of a node of a file, by the recursion and by arcs
abbrev pub TailsAreSpelt : Type 0
TailsAreSpelt =
    (bytes : List ℕ) → IsTrue (is_none (fault_of bytes)) → (n : ℕ) → IsTrue (is_file_node bytes n) → (string : List ℕ)
    → IsTrue (file_tail bytes n string) ↔ IsSpelt (file_node bytes) n string

-- a node has the arc at a place: the node's first arc is no later, and its last no earlier
pub record HoldsArc (words : List ℕ) (node place : ℕ) : Type 0 where
  pub first : is_first words node ≡ true
  pub after : node ≤ place + 1
  pub before : place + 1 < node + length (node_at words node)

-- a target is the first arc of a node, and that node ends before the one that begins at `start`
pub record EndsBefore (words : List ℕ) (target start : ℕ) : Type 0 where
  pub first : is_first words target ≡ true
  pub ends : target + length (node_at words target) ≤ start

-- each arc is in the node that the checks take as its own
abbrev pub NodesHoldArcs : Type 0
NodesHoldArcs = (words : List ℕ) (place : ℕ) → place < length words → HoldsArc words (start_at words place) place

-- what the check of a target says, if the arc's own node begins at `start`
abbrev pub TargetsEndBefore : Type 0
TargetsEndBefore =
    (words : List ℕ) (start target : ℕ) → IsTrue (is_first words start)
    → IsTrue (leads_back words start target) ↔ ((target ≡ 0) ⊎ EndsBefore words target start)
