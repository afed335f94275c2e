-- The words that store the arcs of a node.
use Rattle.std.specs.Prelude.{◌≡◌, ℕ, ◌+◌, ◌*◌, ◌<◌, ◌≤◌, Bool, ◌&&◌, ◌||◌, ◌==◌, List, map, if◌then◌else◌}
use Rattle.std.specs.List.{Contains, list_any}
use Rattle.lex_file.specs.declared.arcs.Arc.{Arc}
use Rattle.lex_file.specs.Arcs.{has_label}
use Rattle.lex_file.specs.Formats.{greatest_label, most_arcs}
use Rattle.lex_file.specs.Masks.{has_bit}

-- the word of an arc in a GAD1 file, without the bit of a last arc
abbrev pub word_of : Arc → ℕ
word_of arc = 128 * arc.target + (if arc.accepts then 32 else 0) + arc.label

-- the words of arcs in a GAD1 file, none with the bit of a last arc
abbrev pub words_of : List Arc → List ℕ
words_of arcs = map word_of arcs

-- the targets of arcs
abbrev pub targets_of : List Arc → List ℕ
targets_of arcs = map (λ (arc : Arc). arc.target) arcs

-- each arc has a label of the mark or of a letter
pub record HaveLabels (arcs : List Arc) : Type 0 where
  pub each : (arc : Arc) → Contains arcs arc → arc.label ≤ greatest_label

-- a GAD1 file can number the target of each arc
pub record HaveTargets (arcs : List Arc) : Type 0 where
  pub each : (arc : Arc) → Contains arcs arc → arc.target ≤ most_arcs

-- whether an arc has a label, and accepts
abbrev pub accepts_with : ℕ → Arc → Bool
accepts_with label arc = arc.accepts && arc.label == label

-- the label word of a node with these arcs in a GAD2 file: bit 31, and a bit for each label
pub record IsLabelWord (arcs : List Arc) (word : ℕ) : Type 0 where
  pub has : (bit : ℕ) → bit < 32 → has_bit word bit ≡ (bit == 31 || list_any (has_label bit) arcs)

-- the accept word of a node with these arcs: a bit for each label that accepts
pub record IsAcceptWord (arcs : List Arc) (word : ℕ) : Type 0 where
  pub has : (bit : ℕ) → bit < 32 → has_bit word bit ≡ list_any (accepts_with bit) arcs
