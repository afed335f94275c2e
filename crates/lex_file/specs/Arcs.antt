-- Arcs of a compiled lexicon, whatever the format that stores them.
use Rattle.std.specs.Prelude.{◌≡◌, ℕ, ◌/◌, ◌%◌, ◌<◌, Bool, false, ◌==◌, nat_le, List, Option, Some, None}
use Rattle.std.specs.List.{find}
use Rattle.lex_file.specs.declared.arcs.Arc.{Arc}
use Rattle.lex_file.specs.declared.arcs.Sought.{Sought}
use Rattle.lex_file.specs.declared.arcs.Sought.TheVariants.{Exactly, AtLeast}

-- the arc that a word of a GAD1 file stores: bits 0 to 4 the label, bit 5 accepts, bits 7 to 31 the target
abbrev pub arc_of : ℕ → Arc
arc_of word = record { label = word % 32; accepts = word / 32 % 2 == 1; target = word / 128 }

-- whether it is the last arc of its node: bit 6
abbrev pub is_last : ℕ → Bool
is_last word = word / 64 % 2 == 1

abbrev pub has_label : ℕ → Arc → Bool
has_label label arc = arc.label == label

-- the first of some arcs with a label
abbrev pub arc_with : ℕ → List Arc → Option Arc
arc_with label arcs = find (has_label label) arcs

abbrev pub reaches : ℕ → Arc → Bool
reaches label arc = nat_le label arc.label

-- the first of some arcs with this label or a higher one
abbrev pub arc_from : ℕ → List Arc → Option Arc
arc_from label arcs = find (reaches label) arcs

-- whether an arc is the one that is sought
abbrev pub is_sought : Sought → Arc → Bool
is_sought (Exactly label) = has_label label
is_sought (AtLeast label) = reaches label

-- each arc that is skipped has a label below this one
abbrev pub PassesBelow : Sought → ℕ → Type 0
PassesBelow sought above = (arc : Arc) → is_sought sought arc ≡ false → arc.label < above

-- whether the string that ends with this arc is in the set
abbrev pub accepts_of : Option Arc → Bool
accepts_of None = false
accepts_of (Some arc) = arc.accepts

-- the number of the node to which the arc leads, 0 for none
abbrev pub target_of : Option Arc → ℕ
target_of None = 0
target_of (Some arc) = arc.target
