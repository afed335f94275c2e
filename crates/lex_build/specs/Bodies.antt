-- The words of the nodes written so far, after the header.
use Rattle.std.specs.Prelude.{◌≡◌, ℕ, zero, suc, ◌+◌, ◌*◌, ◌<◌, ◌≤◌, Bool, true, false, ◌||◌, nat_eq, nat_lt, List, [], ◌∷◌, ◌++◌, length, map, slice_index, Option, None}
use Rattle.lex_file.specs.Arcs.{arc_of, is_last}
use Rattle.lex_file.specs.Nodes.{node_at, begins, is_first}
use Rattle.lex_file.specs.Shapes.{arcs_fault}
use Rattle.std.specs.Cmp.Lexicographic.{pointwise}
use Rattle.std.specs.List.{Contains}
use Rattle.std.specs.Map.{lookup}
use Rattle.lex_file.specs.FileWords.{body_of}
use Rattle.smallvec.specs.SmallVec.{SmallVec}
use Rattle.lex_file.specs.Formats.{header_bytes, most_arcs}
use Rattle.lex_build.specs.declared.faults.BuildFault.{BuildFault}
use Rattle.lex_build.specs.declared.faults.BuildFault.TheVariants as why

-- What is written: no arc has a fault, the last one is the last of its node, and a file can number them.
pub record IsBody (words : List ℕ) : Type 0 where
  pub fine : arcs_fault words (length words) ≡ None
  pub closed : begins words (length words) ≡ true
  pub few : length words ≤ most_arcs

-- the new words are the old ones and further ones after them
pub record IsGrown (old new : List ℕ) : Type 0 where
  pub more : List ℕ
  pub is : new ≡ old ++ more

-- whether a number is 0, for none, or that of a written node
abbrev pub is_target : List ℕ → ℕ → Bool
is_target words zero = true
is_target words (suc place) = is_first words (suc place)

-- An arc of a node that is not written yet: a word without the bit of a last arc.
pub record IsOpenArc (words : List ℕ) (word : ℕ) : Type 0 where
  pub label : (arc_of word).label ≤ 26
  pub target : is_target words (arc_of word).target ≡ true
  pub alive : ((arc_of word).accepts || nat_lt 0 (arc_of word).target) ≡ true
  pub unmarked : is_last word ≡ false

-- the arcs of a node that is not written yet, in rising order of their labels
pub record IsArcList (words arcs : List ℕ) : Type 0 where
  pub each : (place : ℕ) → place < length arcs → IsOpenArc words (slice_index arcs place)
  pub rising : (place : ℕ) → place + 1 < length arcs → (arc_of (slice_index arcs place)).label < (arc_of (slice_index arcs (place + 1))).label

-- the words of a node with these arcs: the last one has the bit of a last arc
unfoldable pub run_with : List ℕ → List ℕ
run_with [] = []
run_with (word ∷ []) = (word + 64) ∷ []
run_with (word ∷ next ∷ arcs) = word ∷ run_with (next ∷ arcs)

-- the written node of this number has these arcs
pub record IsNodeWith (words arcs : List ℕ) (n : ℕ) : Type 0 where
  pub first : is_first words n ≡ true
  pub node : node_at words n ≡ map arc_of arcs

-- The header and the words after it: four bytes each, with no byte left over.
abbrev pub IsWhole : List ℕ → Type 0
IsWhole bytes = length bytes ≡ header_bytes + 4 * length (body_of bytes)

-- the bytes have these words after those of the old ones
pub record HasAppended (old new words : List ℕ) : Type 0 where
  pub whole : IsWhole new
  pub body : body_of new ≡ body_of old ++ words

-- A file while it is written: its bytes are whole words, what is written is sound, and each kept node is there.
pub record IsKept (bytes : List ℕ) (nodes : List (SmallVec ℕ × ℕ)) : Type 0 where
  pub whole : IsWhole bytes
  pub body : IsBody (body_of bytes)
  pub named : (arcs : SmallVec ℕ) (n : ℕ) → Contains nodes (arcs, n) → IsNodeWith (body_of bytes) arcs.items n

-- the number that is kept for arcs
unfoldable pub number_in : List (SmallVec ℕ × ℕ) → List ℕ → Option ℕ
number_in nodes arcs = lookup (λ (key : SmallVec ℕ). pointwise nat_eq arcs key.items) nodes

-- The node with these arcs is placed: it is there now, and no more than its arcs was written.
pub record IsPlaced (old new arcs : List ℕ) (n : ℕ) : Type 0 where
  pub grown : IsGrown old new
  pub node : IsNodeWith new arcs n
  pub size : length new ≤ length old + length arcs

-- Why a node is not placed: its arcs are too many for a file. Lack of memory says nothing.
abbrev pub IsUnplaced : List ℕ → List ℕ → BuildFault → Type 0
IsUnplaced words arcs why.TooManyArcs = most_arcs < length words + length arcs
IsUnplaced words arcs why.NoMemory = Unit {0}
