-- The checks of the form of a GAD2 file after its header.
use Rattle.std.specs.Prelude.{ℕ, zero, suc, ◌+◌, ◌/◌, ◌%◌, ◌^◌, Bool, ◌&&◌, ◌||◌, ◌==◌, nat_lt, nat_le, bit_and, List, [], ◌∷◌, length, slice_index, Option, None, if◌then◌else◌}
use Rattle.std.specs.Option.{option_or}
use Rattle.first_faults.specs.Checks.{passes, first_fault}
use Rattle.lex_file.specs.declared.faults.FileFault.{FileFault}
use Rattle.lex_file.specs.declared.faults.FileFault.TheVariants as why
use Rattle.lex_file.specs.Masks.{has_bit, is_marked, label_count, node_size, mask_arc, is_mask_node}

-- whether a label word has a label, and none of the bits 27 to 30
abbrev pub is_mask : ℕ → Bool
is_mask word = word / 2 ^ 27 % 16 == 0 && nat_lt 0 (label_count word)

-- whether an accept word has no bit that is not a label of its label word
abbrev pub accepts_labels : ℕ → ℕ → Bool
accepts_labels labels accepts = bit_and accepts (labels % 2 ^ 27) == accepts

-- whether a target of the node with a number is none, or a node with a smaller number
abbrev pub points_back : List ℕ → ℕ → ℕ → Bool
points_back words n target = target == 0 || (nat_lt target n && is_mask_node words target)

-- what is wrong with a label of the node at a place: its target; it neither accepts nor has a target
unfoldable pub label_fault : List ℕ → ℕ → ℕ → Option FileFault
label_fault words place label =
    let arc = mask_arc words place label in
    first_fault
    (passes (points_back words (place + 1) arc.target) why.Target
    ∷ passes (arc.accepts || nat_lt 0 arc.target) why.DeadArc
    ∷ [])

-- the first fault of the labels of the node at a place below one
unfoldable pub labels_fault : List ℕ → ℕ → ℕ → Option FileFault
labels_fault words place zero = None
labels_fault words place (suc label) =
    option_or (labels_fault words place label) (if has_bit (slice_index words place) label then label_fault words place label else None)

-- What is wrong with the node at a place: there is no label word; it has a bit of 27 to 30, or no label; fewer words follow than
-- its labels require; the accept word has a bit that is not a label of the node; a label.
unfoldable pub node_fault : List ℕ → ℕ → Option FileFault
node_fault words place =
    let labels = slice_index words place in
    first_fault
    (passes (is_marked labels) why.NoMark
    ∷ passes (is_mask labels) why.Mask
    ∷ passes (nat_le (place + node_size labels) (length words)) why.OpenRun
    ∷ passes (accepts_labels labels (slice_index words (place + 1))) why.Accept
    ∷ labels_fault words place 27
    ∷ [])

-- The first fault of the nodes from a place on, each after the words of the one before. `remaining` is at least the number of nodes.
unfoldable pub nodes_fault : List ℕ → ℕ → ℕ → Option FileFault
nodes_fault words zero place = None
nodes_fault words (suc remaining) place =
    if nat_lt place (length words)
    then option_or (node_fault words place) (nodes_fault words remaining (place + node_size (slice_index words place)))
    else None
