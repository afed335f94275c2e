-- Graphs of nodes, whatever the format that stores them: each node has a number and arcs. What makes a graph sound.
use Rattle.std.proofs.Common.{◌≡◌, ℕ, ◌<◌, ◌≤◌, Bool, ◌||◌, ltb, List, [], ◌∷◌, length, ◌⊎◌}
use Rattle.std.specs.Prelude.{IsTrue}
use Rattle.std.specs.List.{Contains}
use Rattle.lex_file.specs.declared.arcs.Arc.{Arc}
use Rattle.lex_file.specs.Formats.{greatest_label}

-- ---- what makes a graph sound

-- The arc of a node: its label is that of the mark or of a letter; its target is none, or a node with a smaller number; and it
-- accepts or has a target.
pub record IsSoundArc (is_node : ℕ → Bool) (n : ℕ) (arc : Arc) : Type 0 where
  pub label : arc.label ≤ greatest_label
  pub target : (arc.target ≡ 0) ⊎ ((arc.target < n) × IsTrue (is_node arc.target))
  pub alive : IsTrue (arc.accepts || ltb 0 arc.target)

-- each label is below those of all arcs after it
abbrev pub AreRising : List Arc → Type 0
AreRising [] = Unit {0}
AreRising (arc ∷ arcs) = ((after : Arc) → Contains arcs after → arc.label < after.label) × AreRising arcs

-- A sound graph: 0 has no arcs, and is not a node or is the only node of the empty set; every other node has arcs, all of them
-- sound, in rising order of their labels.
pub record IsSoundGraph (node : ℕ → List Arc) (is_node : ℕ → Bool) : Type 0 where
  pub none : node 0 ≡ []
  pub some : (n : ℕ) → 0 < n → IsTrue (is_node n) → 0 < length (node n)
  pub arcs : (n : ℕ) (arc : Arc) → IsTrue (is_node n) → Contains (node n) arc → IsSoundArc is_node n arc
  pub rising : (n : ℕ) → IsTrue (is_node n) → AreRising (node n)
