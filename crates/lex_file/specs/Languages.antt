-- The language of a compiled lexicon: the strings of labels that its arcs spell.
use Rattle.std.specs.Prelude.{◌≡◌, ℕ, ◌+◌, ◌-◌, ◌<◌, Bool, true, false, List, [], ◌∷◌, length, map, slice_get, Some}
use Rattle.std.specs.List.{Contains}
use Rattle.lex_file.specs.declared.arcs.Arc.{Arc}
use Rattle.lex_file.specs.Arcs.{arc_with, accepts_of, target_of}
use Rattle.lex_file.specs.Shapes.{file_node, root_of}

-- ---- what it means

-- A string is spelt from a node: there are arcs with these labels, the first in that node, each next one in the node
-- that the arc before targets, the last accepting.
pub record IsSpelt (node : ℕ → List Arc) (from : ℕ) (string : List ℕ) : Type 0 where
  pub arcs : List Arc
  pub some : 0 < length arcs
  pub labels : map (λ (arc : Arc). arc.label) arcs ≡ string
  pub first : (arc : Arc) → slice_get arcs 0 ≡ Some arc → Contains (node from) arc
  pub next : (place : ℕ) (arc after : Arc) → slice_get arcs place ≡ Some arc → slice_get arcs (place + 1) ≡ Some after → Contains (node arc.target) after
  pub last : (arc : Arc) → slice_get arcs (length arcs - 1) ≡ Some arc → arc.accepts ≡ true

-- the language of a file: what is spelt from its root
abbrev pub IsInLanguage : List ℕ → List ℕ → Type 0
IsInLanguage bytes string = IsSpelt (file_node bytes) (root_of bytes) string

-- ---- what the code uses: a recursion on the string

-- whether a string is one of the tails of a node
unfoldable pub tail_in : (ℕ → List Arc) → ℕ → List ℕ → Bool
tail_in node n [] = false
tail_in node n (label ∷ []) = accepts_of (arc_with label (node n))
tail_in node n (label ∷ after ∷ rest) = tail_in node (target_of (arc_with label (node n))) (after ∷ rest)

-- whether a string is one of the tails of a node of a file
abbrev pub file_tail : List ℕ → ℕ → List ℕ → Bool
file_tail bytes n string = tail_in (file_node bytes) n string

-- whether a string is in the language of a file
abbrev pub language_of : List ℕ → List ℕ → Bool
language_of bytes string = file_tail bytes (root_of bytes) string
