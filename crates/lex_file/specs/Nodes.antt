-- The nodes of a GAD1 file, over the list of its words after the header. Arcs are numbered from 1; the word of arc n is at place n - 1.
use Rattle.std.specs.Prelude.{ℕ, zero, suc, ◌+◌, Bool, true, false, ◌&&◌, ◌==◌, nat_lt, List, [], ◌∷◌, length, drop, slice_index, if◌then◌else◌}
use Rattle.lex_file.specs.declared.arcs.Arc.{Arc}
use Rattle.lex_file.specs.Arcs.{arc_of, is_last}

-- the arcs of a run of words, up to the first one marked as last
unfoldable pub run_of : List ℕ → List Arc
run_of [] = []
run_of (word ∷ words) = arc_of word ∷ (if is_last word then [] else run_of words)

-- the arcs of the node that is named by its first arc; 0 names no node, and has no arcs
abbrev pub node_at : List ℕ → ℕ → List Arc
node_at words zero = []
node_at words (suc place) = run_of (drop place words)

-- whether a node begins at a place: it is the first place, or the arc before it is the last of its node
abbrev pub begins : List ℕ → ℕ → Bool
begins words zero = true
begins words (suc place) = is_last (slice_index words place)

-- whether a number is that of the first arc of a node
abbrev pub is_first : List ℕ → ℕ → Bool
is_first words zero = false
is_first words (suc place) = nat_lt place (length words) && begins words place

-- Whether a number names a node: the first arc of one, or if there are no arcs 0, the node of the empty set.
abbrev pub is_node : List ℕ → ℕ → Bool
is_node words zero = length words == 0
is_node words (suc place) = is_first words (suc place)

-- the number of the first arc of the node that has the arc at a place
unfoldable pub start_at : List ℕ → ℕ → ℕ
start_at words zero = 1
start_at words (suc place) = if is_last (slice_index words place) then place + 2 else start_at words place
