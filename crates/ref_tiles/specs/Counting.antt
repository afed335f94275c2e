-- Counts of tiles as multisets of kinds: a list of 27 numbers, A to Z and then blanks.
use Rattle.std.specs.Prelude.{ℕ, ◌≤◌, ◌==◌, List, map, replicate, slice_index, slice_set}
use Rattle.std.specs.List.{count_by, range_with_len}
use Rattle.ref_tiles.specs.Kinds.{number_of}
use Rattle.ref_tiles.specs.declared.kinds.Kind.{Kind}

-- no tiles
unfoldable pub no_tiles : List ℕ
no_tiles = replicate 27 0

-- the multiset of a list of kinds: how often each of the 27 kinds is in it
unfoldable pub counted : List Kind → List ℕ
counted kinds = map (λ k. count_by (λ kind. number_of kind == k) kinds) (range_with_len 0 27)

-- the number of tiles of this kind
abbrev pub count_of : List ℕ → Kind → ℕ
count_of counts kind = slice_index counts (number_of kind)

-- the counts with another number for this kind
abbrev pub with_count : List ℕ → Kind → ℕ → List ℕ
with_count counts kind number = slice_set counts (number_of kind) number

-- there are no more tiles of each kind than in the other
abbrev pub IsContainedIn : List ℕ → List ℕ → Type 0
IsContainedIn counts other = (k : ℕ) → slice_index counts k ≤ slice_index other k
