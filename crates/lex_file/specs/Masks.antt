-- The nodes of a GAD2 file, over the list of its words after the header. Words are numbered from 1; word n is at place n - 1. A
-- node is a label word, an accept word and a word for each label, its target, and is named by the number of its label word.
use Rattle.std.specs.Prelude.{ℕ, zero, suc, ◌+◌, ◌/◌, ◌%◌, ◌^◌, ◌≤◌, Bool, ◌&&◌, ◌==◌, nat_lt, List, [], length, slice_index, map, count_ones, if◌then◌else◌}
use Rattle.std.specs.List.{filter, range_with_len}
use Rattle.lex_file.specs.declared.arcs.Arc.{Arc}

-- whether a word has a bit
abbrev pub has_bit : ℕ → ℕ → Bool
has_bit word bit = word / 2 ^ bit % 2 == 1

-- whether a word is a label word: bit 31
abbrev pub is_marked : ℕ → Bool
is_marked word = has_bit word 31

-- the number of labels of a label word below this one: label l is bit l
abbrev pub labels_below : ℕ → ℕ → ℕ
labels_below label word = count_ones (word % 2 ^ label)

-- the number of labels of a label word, the mark and the letters A to Z
abbrev pub label_count : ℕ → ℕ
label_count word = labels_below 27 word

-- the words of a node with this label word
abbrev pub node_size : ℕ → ℕ
node_size word = 2 + label_count word

-- the arc with a label of the node at a place: the targets are in rising order of their labels
abbrev pub mask_arc : List ℕ → ℕ → ℕ → Arc
mask_arc words place label =
    record {
      label = label;
      accepts = has_bit (slice_index words (place + 1)) label;
      target = slice_index words (place + 2 + labels_below label (slice_index words place));
    }

-- the arcs of the node at a place with the labels among `count` from one on
unfoldable pub arcs_among : List ℕ → ℕ → ℕ → ℕ → List Arc
arcs_among words place from count = map (mask_arc words place) (filter (has_bit (slice_index words place)) (range_with_len from count))

-- the arcs of the node that is named by its label word; 0 names no node, and has no arcs
abbrev pub mask_node : List ℕ → ℕ → List Arc
mask_node words zero = []
mask_node words (suc place) = arcs_among words place 0 27

-- the words of a node of this label word, from a place on, are there
abbrev pub IsInside : List ℕ → ℕ → Type 0
IsInside words place = place + node_size (slice_index words place) ≤ length words

-- the words of the node that is named by its label word are there
abbrev pub HasRoom : List ℕ → ℕ → Type 0
HasRoom words zero = Unit {0}
HasRoom words (suc place) = IsInside words place

-- Whether a number names a node: a label word, or if there are no words 0, the node of the empty set.
abbrev pub is_mask_node : List ℕ → ℕ → Bool
is_mask_node words zero = length words == 0
is_mask_node words (suc place) = nat_lt place (length words) && is_marked (slice_index words place)

-- the number of labels of all nodes among the first `count` words
unfoldable pub labels_within : List ℕ → ℕ → ℕ
labels_within words zero = 0
labels_within words (suc place) =
    labels_within words place + (if is_marked (slice_index words place) then label_count (slice_index words place) else 0)
