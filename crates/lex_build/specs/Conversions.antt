-- How far the conversion of a file has come: over the words written after the header, and over the list of new numbers, in which
-- that of a node is at the node's number in the file.
use Rattle.std.specs.Prelude.{◌≡◌, ℕ, ◌+◌, ◌<◌, ◌≤◌, true, false, List, length, map, slice_index, Some}
use Rattle.lex_file.specs.declared.formats.Format.{Format}
use Rattle.lex_file.specs.Files.{IsNextNode}
use Rattle.lex_file.specs.FileWords.{body_of}
use Rattle.lex_file.specs.Shapes.{nodes_by, file_node, is_file_node}
use Rattle.lex_build.specs.Stores.{IsSoundBody, is_stored}
use Rattle.lex_build.specs.Converts.{words_up_to, renamed}

-- a stored node of a file with a number up to one
pub record IsNodeTo (bytes : List ℕ) (last n : ℕ) : Type 0 where
  pub some : 0 < n
  pub within : n ≤ last
  pub node : is_file_node bytes n ≡ true

-- The stored nodes of a file with numbers up to one are written, each under its new number with the same arcs to the new numbers of
-- the targets, and no others.
pub record IsConvertedTo (format : Format) (bytes words numbers : List ℕ) (last : ℕ) : Type 0 where
  pub sound : IsSoundBody format words
  pub size : length words ≡ words_up_to format bytes last
  pub inside : last ≤ length (body_of bytes)
  pub covers : length numbers ≡ last + 1
  pub none : slice_index numbers 0 ≡ 0
  pub positive : (n : ℕ) → IsNodeTo bytes last n → 0 < slice_index numbers n
  pub stored : (n : ℕ) → IsNodeTo bytes last n → is_stored format words (slice_index numbers n) ≡ true
  pub arcs : (n : ℕ) → IsNodeTo bytes last n → nodes_by (Some format) words (slice_index numbers n) ≡ map (renamed (slice_index numbers)) (file_node bytes n)
  pub rising : (m n : ℕ) → IsNodeTo bytes last m → IsNodeTo bytes last n → m < n → slice_index numbers m < slice_index numbers n
  pub all : (m : ℕ) → 0 < m → is_stored format words m ≡ true → (n : ℕ) × IsNodeTo bytes last n × (slice_index numbers n ≡ m)

-- the stored nodes that come before one are written
pub record IsConvertedBefore (format : Format) (bytes words numbers : List ℕ) (n : ℕ) : Type 0 where
  pub last : ℕ
  pub before : IsConvertedTo format bytes words numbers last
  pub next : IsNextNode bytes last n

-- all stored nodes are written
pub record IsConvertedWhole (format : Format) (bytes words numbers : List ℕ) : Type 0 where
  pub last : ℕ
  pub before : IsConvertedTo format bytes words numbers last
  pub none : (n : ℕ) → last < n → is_file_node bytes n ≡ false

-- the list of numbers now has a number at a place after its end, and is otherwise unchanged
pub record IsNumbered (old new : List ℕ) (place number : ℕ) : Type 0 where
  pub size : length new ≡ place + 1
  pub here : slice_index new place ≡ number
  pub same : (n : ℕ) → (n ≡ place → ⊥) → slice_index new n ≡ slice_index old n
