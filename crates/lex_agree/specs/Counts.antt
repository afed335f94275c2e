-- An upper bound on the number of strings of a set.
use Rattle.std.specs.Prelude.{◌≡◌, ℕ, ◌+◌, ◌/◌, ◌<◌, ◌≤◌, Bool, true, List, [], ◌∷◌, length, slice_index, Option, Some, None, if◌then◌else◌}
use Rattle.std.specs.List.{Contains, sum_by}
use Rattle.lex_file.specs.declared.files.Node.{Node}
use Rattle.lex_file.specs.Files.{number_of}
use Rattle.lex_file.specs.Languages.{file_tail}
use Rattle.lex_file.specs.Shapes.{is_file_node}
use Rattle.lex_agree.specs.declared.tables.CountTable.{CountTable}

-- all strings of the set are in a list of at most `count`
pub record HasAtMost (has : List ℕ → Bool) (count : ℕ) : Type 0 where
  pub strings : List (List ℕ)
  pub all : (string : List ℕ) → has string ≡ true → Contains strings string
  pub few : length strings ≤ count

-- the number of letters of all words: each ends one front, so it is the number of their rotated paths
abbrev pub letters_of : List (List ℕ) → ℕ
letters_of words = sum_by length words

-- ---- the nodes of a file

-- the greatest number that is counted
abbrev pub most_counted : ℕ
most_counted = 4294967295

-- A count of the strings of a set: there are no more, unless it is the greatest number.
abbrev pub IsCount : (List ℕ → Bool) → ℕ → Type 0
IsCount has count = count < most_counted → HasAtMost has count

-- the place in a table of the node with a number: the number, or a third of it rounded up
abbrev pub slot_of : Bool → ℕ → ℕ
slot_of thirds n = if thirds then (n + 2) / 3 else n

-- the strings of a node are counted by its byte, unless that is 255
pub record IsCountedBy (bytes small : List ℕ) (slot n : ℕ) : Type 0 where
  pub inside : slot < length small
  pub count : slice_index small slot < 255 → IsCount (file_tail bytes n) (slice_index small slot)

-- the strings of nodes are counted by numbers that are stored separately
pub record AreCountedBeside (bytes nodes large : List ℕ) : Type 0 where
  pub pairs : length nodes ≡ length large
  pub each : (place : ℕ) → place < length large → IsCount (file_tail bytes (slice_index nodes place)) (slice_index large place)

-- the strings of a node of a file are counted in a table
pub record IsCounted (bytes : List ℕ) (table : CountTable) (n : ℕ) : Type 0 where
  pub here : IsCountedBy bytes table.small.items (slot_of table.thirds n) n
  pub beside : AreCountedBeside bytes table.nodes.items table.large.items

-- the strings of a node are counted, if there is one
abbrev pub IsCountedThere : List ℕ → CountTable → Option Node → Type 0
IsCountedThere bytes table None = Unit {0}
IsCountedThere bytes table (Some node) = IsCounted bytes table (number_of node)

-- the nodes of a file with lower numbers than one are counted
pub record AreCountedBelow (bytes : List ℕ) (table : CountTable) (n : ℕ) : Type 0 where
  pub beside : AreCountedBeside bytes table.nodes.items table.large.items
  pub each : (m : ℕ) → m < n → is_file_node bytes m ≡ true → IsCountedBy bytes table.small.items (slot_of table.thirds m) m

-- a table in which only the number 0 has a count
pub record IsFirstTable (table : CountTable) : Type 0 where
  pub small : table.small.items ≡ 0 ∷ []
  pub nodes : table.nodes.items ≡ []
  pub large : table.large.items ≡ []

-- a list now has a number at a place after its end, and is otherwise unchanged
pub record IsPut (old new : List ℕ) (place number : ℕ) : Type 0 where
  pub size : length new ≡ place + 1
  pub here : slice_index new place ≡ number
  pub same : (n : ℕ) → n < length old → slice_index new n ≡ slice_index old n
