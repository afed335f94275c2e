-- The nodes of a file while it is written in one of the formats, over the list of its words after the header. A node is stored
-- after all that are already there, under the number of its first word.
use Rattle.std.specs.Prelude.{◌≡◌, ℕ, zero, suc, ◌+◌, ◌<◌, ◌≤◌, ◌⊎◌, Bool, true, ◌||◌, nat_lt, List, length, Some, None}
use Rattle.std.specs.List.{Contains}
use Rattle.lex_file.specs.declared.arcs.Arc.{Arc}
use Rattle.lex_file.specs.declared.formats.Format.{Format}
use Rattle.lex_file.specs.declared.formats.Format.TheVariants as form
use Rattle.lex_file.specs.FileWords.{body_of}
use Rattle.lex_file.specs.Formats.{greatest_label, most_arcs, most_body_words}
use Rattle.lex_file.specs.Graphs.{AreRising}
use Rattle.lex_file.specs.MaskShapes.{nodes_fault}
use Rattle.lex_file.specs.Shapes.{nodes_by, names_node}
use Rattle.lex_build.specs.Bodies.{IsBody, IsGrown, IsWhole}

-- the maximum number of words after the header
abbrev pub limit_of : Format → ℕ
limit_of form.Gad1 = most_arcs
limit_of form.Gad2 = most_body_words

-- the number of words of a node with a number of arcs
abbrev pub words_for : Format → ℕ → ℕ
words_for form.Gad1 count = count
words_for form.Gad2 count = 2 + count

-- What is written in the second format: no node has a fault, and a file can number the words.
pub record IsMaskBody (words : List ℕ) : Type 0 where
  pub fine : nodes_fault words (length words) 0 ≡ None
  pub few : length words ≤ most_body_words

-- what is written is sound in its format
abbrev pub IsSoundBody : Format → List ℕ → Type 0
IsSoundBody form.Gad1 words = IsBody words
IsSoundBody form.Gad2 words = IsMaskBody words

-- whether a number is 0, for none, or that of a stored node
abbrev pub is_stored : Format → List ℕ → ℕ → Bool
is_stored format words zero = true
is_stored format words (suc place) = names_node (Some format) words (suc place)

-- an arc of a node that is to be stored: its target is none, or a stored node
pub record IsNextArc (format : Format) (words : List ℕ) (arc : Arc) : Type 0 where
  pub label : arc.label ≤ greatest_label
  pub target : is_stored format words arc.target ≡ true
  pub alive : (arc.accepts || nat_lt 0 arc.target) ≡ true

-- the arcs of a node that is to be stored, in rising order of their labels
pub record AreNextArcs (format : Format) (words : List ℕ) (arcs : List Arc) : Type 0 where
  pub some : 0 < length arcs
  pub each : (arc : Arc) → Contains arcs arc → IsNextArc format words arc
  pub rising : AreRising arcs

-- A node with these arcs is stored after all others, which stay as they were; no other node is there.
pub record IsStoredNext (format : Format) (old new : List ℕ) (arcs : List Arc) : Type 0 where
  pub sound : IsSoundBody format new
  pub grown : IsGrown old new
  pub size : length new ≡ length old + words_for format (length arcs)
  pub is : names_node (Some format) new (length old + 1) ≡ true
  pub node : nodes_by (Some format) new (length old + 1) ≡ arcs
  pub stays : (n : ℕ) → is_stored format old n ≡ true → is_stored format new n ≡ true
  pub same : (n : ℕ) → is_stored format old n ≡ true → nodes_by (Some format) new n ≡ nodes_by (Some format) old n
  pub alone : (n : ℕ) → is_stored format new n ≡ true → (n ≡ length old + 1) ⊎ (is_stored format old n ≡ true)

-- the same for the bytes of a file: whole words come after the header
pub record HasStored (format : Format) (old new : List ℕ) (arcs : List Arc) : Type 0 where
  pub whole : IsWhole new
  pub next : IsStoredNext format (body_of old) (body_of new) arcs
