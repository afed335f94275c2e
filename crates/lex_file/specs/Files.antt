-- The view of an opened file.
use Rattle.std.specs.Prelude.{◌≡◌, ℕ, ◌<◌, ◌≤◌, true, false, List}
use Rattle.lex_file.specs.declared.files.LexFile.{LexFile}
use Rattle.lex_file.specs.declared.files.Node.{Node}
use Rattle.lex_file.specs.Arcs.{arc_from}
use Rattle.lex_file.specs.Shapes.{file_node, is_file_node}

-- the bytes of which it is a view
abbrev pub bytes_of : LexFile → List ℕ
bytes_of file = file.bytes.now

-- the number by which its file names a node
abbrev pub number_of : Node → ℕ
number_of node = node.first

-- What is left of a node of a file for the labels from one on: it has the same arcs with these labels. For a GAD1 file it is what
-- the node stores from an arc on, with 0 for nothing; for a GAD2 file it is the node itself.
abbrev pub IsRest : List ℕ → ℕ → ℕ → ℕ → Type 0
IsRest bytes n from rest = (label : ℕ) → from ≤ label → arc_from label (file_node bytes n) ≡ arc_from label (file_node bytes rest)

-- a stored node of a file, the first one after those up to a number
pub record IsNextNode (bytes : List ℕ) (low n : ℕ) : Type 0 where
  pub above : low < n
  pub node : is_file_node bytes n ≡ true
  pub next : (m : ℕ) → low < m → m < n → is_file_node bytes m ≡ false
