-- The shape of a compiled lexicon: the checks of its form, in order.
use Rattle.std.specs.Prelude.{◌≡◌, ℕ, zero, suc, ◌+◌, ◌*◌, Bool, ◌&&◌, ◌||◌, ◌==◌, nat_lt, nat_le, eqb, List, [], ◌∷◌, length, slice_index, Option, Some, None, if◌then◌else◌}
use Rattle.std.specs.List.{starts_with}
use Rattle.std.specs.Option.{option_or}
use Rattle.first_faults.specs.Checks.{passes, first_fault}
use Rattle.lex_file.specs.declared.faults.FileFault.{FileFault}
use Rattle.lex_file.specs.declared.faults.FileFault.TheVariants as why
use Rattle.lex_file.specs.declared.arcs.Arc.{Arc}
use Rattle.lex_file.specs.declared.formats.Format.{Format}
use Rattle.lex_file.specs.declared.formats.Format.TheVariants as form
use Rattle.lex_file.specs.Arcs.{arc_of}
use Rattle.lex_file.specs.Formats.{header_bytes, gad1_magic, gad2_magic, greatest_label, most_arcs, most_body_words}
use Rattle.lex_file.specs.FileWords.{words_in, body_of}
use Rattle.lex_file.specs.Nodes.{node_at, begins, is_first, is_node, start_at}
use Rattle.lex_file.specs.Masks.{mask_node, is_mask_node, labels_within}
use Rattle.lex_file.specs.MaskShapes.{nodes_fault}

-- ---- the header

-- the number that the header states, of arcs or of words
abbrev pub count_of : List ℕ → ℕ
count_of bytes = slice_index (words_in bytes) 1

-- the root
abbrev pub root_of : List ℕ → ℕ
root_of bytes = slice_index (words_in bytes) 2

-- the number of words that the header states
abbrev pub word_count_of : List ℕ → ℕ
word_count_of bytes = slice_index (words_in bytes) 3

-- the format of a file, by its first four bytes
abbrev pub format_of : List ℕ → Option Format
format_of bytes =
    if starts_with eqb bytes gad1_magic then Some form.Gad1
    else (if starts_with eqb bytes gad2_magic then Some form.Gad2 else None)

-- ---- GAD1

-- the label of the arc before a place, 0 at the first
abbrev pub label_before : List ℕ → ℕ → ℕ
label_before words zero = 0
label_before words (suc place) = (arc_of (slice_index words place)).label

-- whether the labels that are in order at a place, after the arc before it, are those from one on
abbrev pub IsLeast : List ℕ → ℕ → ℕ → Type 0
IsLeast words place least = (label : ℕ) → (begins words place || nat_lt (label_before words place) label) ≡ nat_le least label

-- whether a target of an arc is none, or the first arc of a node that ends before the arc's own node begins
abbrev pub leads_back : List ℕ → ℕ → ℕ → Bool
leads_back words start target = target == 0 || (nat_lt target start && is_first words target)

-- What is wrong with the arc at a place: its label is over 26; it is not the first of its node and not above the label
-- before it; its target; it neither accepts nor has a target.
unfoldable pub arc_fault : List ℕ → ℕ → Option FileFault
arc_fault words place =
    let arc = arc_of (slice_index words place) in
    first_fault
    (passes (nat_le arc.label greatest_label) why.Label
    ∷ passes (begins words place || nat_lt (label_before words place) arc.label) why.Order
    ∷ passes (leads_back words (start_at words place) arc.target) why.Target
    ∷ passes (arc.accepts || nat_lt 0 arc.target) why.DeadArc
    ∷ [])

-- the first fault of the first `count` arcs
unfoldable pub arcs_fault : List ℕ → ℕ → Option FileFault
arcs_fault words zero = None
arcs_fault words (suc place) = option_or (arcs_fault words place) (arc_fault words place)

-- the faults after the header: of the arcs in rising order, and that the last arc is not marked as the last of its node
unfoldable pub body_fault : List ℕ → Option FileFault
body_fault words = option_or (arcs_fault words (length words)) (passes (begins words (length words)) why.OpenRun)

-- the faults of a header: more than `most` arcs or words, a length that does not match them, or a root that is not a node
abbrev pub header_fault_by : (most : ℕ) (has_root : Bool) → List ℕ → Option FileFault
header_fault_by most has_root bytes =
    first_fault
    (passes (nat_le (count_of bytes) most && length bytes == header_bytes + 4 * count_of bytes) why.Length
    ∷ passes has_root why.Root
    ∷ [])

-- those of the header of a GAD1 file
unfoldable pub header_fault : List ℕ → Option FileFault
header_fault bytes = header_fault_by most_arcs (is_node (body_of bytes) (root_of bytes)) bytes

-- ---- GAD2

-- the faults of the header of a GAD2 file
unfoldable pub mask_header_fault : List ℕ → Option FileFault
mask_header_fault bytes = header_fault_by most_body_words (is_mask_node (body_of bytes) (root_of bytes)) bytes

-- ---- both formats

-- the first fault of a file that is not too short to have a header, by its format
unfoldable pub form_fault : Option Format → List ℕ → Option FileFault
form_fault None bytes = Some why.Magic
form_fault (Some form.Gad1) bytes = option_or (header_fault bytes) (body_fault (body_of bytes))
form_fault (Some form.Gad2) bytes = option_or (mask_header_fault bytes) (nodes_fault (body_of bytes) (length (body_of bytes)) 0)

-- The first fault of a file. A file has the shape of a compiled lexicon if there is none.
unfoldable pub fault_of : List ℕ → Option FileFault
fault_of bytes = if nat_lt (length bytes) header_bytes then Some why.Short else form_fault (format_of bytes) bytes

-- the arcs of a node, by the format
abbrev pub nodes_by : Option Format → List ℕ → ℕ → List Arc
nodes_by None words n = []
nodes_by (Some form.Gad1) words n = node_at words n
nodes_by (Some form.Gad2) words n = mask_node words n

-- whether a number names a node, by the format
abbrev pub names_node : Option Format → List ℕ → ℕ → Bool
names_node None words n = n == 0
names_node (Some form.Gad1) words n = is_node words n
names_node (Some form.Gad2) words n = is_mask_node words n

-- the number of stored arcs, by the format: one for each word, or one for each label of each node
abbrev pub arcs_by : Option Format → List ℕ → ℕ
arcs_by None words = 0
arcs_by (Some form.Gad1) words = length words
arcs_by (Some form.Gad2) words = labels_within words (length words)

-- the arcs of a node of a file
unfoldable pub file_node : List ℕ → ℕ → List Arc
file_node bytes n = nodes_by (format_of bytes) (body_of bytes) n

-- whether a number names a node of a file
unfoldable pub is_file_node : List ℕ → ℕ → Bool
is_file_node bytes n = names_node (format_of bytes) (body_of bytes) n

-- the number of arcs of a file
unfoldable pub arc_count_of : List ℕ → ℕ
arc_count_of bytes = arcs_by (format_of bytes) (body_of bytes)
