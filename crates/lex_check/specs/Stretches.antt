-- Paths in order as a lexicon. A node is a stretch of the paths, without their first labels.
use Rattle.std.specs.Prelude.{◌≡◌, ℕ, zero, suc, ◌-◌, ◌<◌, ◌≤◌, Bool, true, false, ◌||◌, ◌==◌, nat_eq, List, [], length, drop, slice_index, slice_index_or}
use Rattle.std.specs.Cmp.Lexicographic.{pointwise, slice_cmp}
use Rattle.std.specs.List.{list_all}
use Rattle.std.specs.List.Sorted.{IsStrictlySortedBy}
use Rattle.std.specs.Ordering.{nat_cmp}
use Rattle.lex_file.specs.Lexicons.{is_label}
use Rattle.lex_check.specs.Orders.{IsBefore}
use Rattle.lex_check.specs.declared.sorted.Stretch.{Stretch}

-- what a path is: 1 to 16 labels
pub record IsPathOfLabels (path : List ℕ) : Type 0 where
  pub some : 0 < length path
  pub few : length path ≤ 16
  pub labels : list_all is_label path ≡ true

-- what a list of paths is: in order, each once
pub record IsPathList (paths : List (List ℕ)) : Type 0 where
  pub ordered : IsStrictlySortedBy (slice_cmp nat_cmp) paths
  pub each : (place : ℕ) → place < length paths → IsPathOfLabels (slice_index_or paths place [])

-- the label at a depth of the path at a place
abbrev pub label_at : List (List ℕ) → ℕ → ℕ → ℕ
label_at paths depth place = slice_index (slice_index_or paths place []) depth

-- what is left of the path at a place, without its first labels
abbrev pub remaining_at : List (List ℕ) → ℕ → ℕ → List ℕ
remaining_at paths depth place = drop depth (slice_index_or paths place [])

-- whether a string is what is left of one of the paths at `count` places from `low` on
unfoldable pub is_remaining : List (List ℕ) → ℕ → List ℕ → ℕ → ℕ → Bool
is_remaining paths depth string low zero = false
is_remaining paths depth string low (suc count) = pointwise nat_eq string (remaining_at paths depth low) || is_remaining paths depth string (suc low) count

-- A stretch: what is left of its paths is not empty, and is in order.
pub record IsStretch (paths : List (List ℕ)) (stretch : Stretch) : Type 0 where
  pub order : stretch.low ≤ stretch.high
  pub inside : stretch.high ≤ length paths
  pub long : (place : ℕ) → stretch.low ≤ place → place < stretch.high → stretch.depth < length (slice_index_or paths place [])
  pub few : (place : ℕ) → stretch.low ≤ place → place < stretch.high → length (slice_index_or paths place []) ≤ 16
  pub labels : (place : ℕ) → stretch.low ≤ place → place < stretch.high → list_all is_label (remaining_at paths stretch.depth place) ≡ true
  pub rising : (one other : ℕ) → stretch.low ≤ one → one < other → other < stretch.high → IsBefore (remaining_at paths stretch.depth one) (remaining_at paths stretch.depth other)

-- the tails of a stretch
abbrev pub stretch_tail : List (List ℕ) → Stretch → List ℕ → Bool
stretch_tail paths stretch string = is_remaining paths stretch.depth string stretch.low (stretch.high - stretch.low)

-- a path has at most 16 labels, so at most this many are left
abbrev pub height_of : Stretch → ℕ
height_of stretch = 16 - stretch.depth

-- whether a string is one of the paths
abbrev pub is_one_of : List (List ℕ) → List ℕ → Bool
is_one_of paths string = is_remaining paths 0 string 0 (length paths)

-- The part of a stretch, from one place up to another, whose paths have the label at the depth.
pub record IsPartWith (paths : List (List ℕ)) (stretch : Stretch) (label low high : ℕ) : Type 0 where
  pub from : stretch.low ≤ low
  pub order : low ≤ high
  pub to : high ≤ stretch.high
  pub all : (place : ℕ) → low ≤ place → place < high → label_at paths stretch.depth place ≡ label
  pub only : (place : ℕ) → stretch.low ≤ place → place < stretch.high → label_at paths stretch.depth place ≡ label → (low ≤ place) × (place < high)

-- the paths of a stretch have labels at the depth that are below this one
abbrev pub IsBelow : List (List ℕ) → Stretch → ℕ → Type 0
IsBelow paths stretch label = (place : ℕ) → stretch.low ≤ place → place < stretch.high → label_at paths stretch.depth place < label

-- the first place of a stretch whose path has this label at the depth, or a higher one; the stretch's end if there is none
pub record IsPlaceFrom (paths : List (List ℕ)) (stretch : Stretch) (label place : ℕ) : Type 0 where
  pub from : stretch.low ≤ place
  pub to : place ≤ stretch.high
  pub before : (other : ℕ) → stretch.low ≤ other → other < place → label_at paths stretch.depth other < label
  pub following : (other : ℕ) → place ≤ other → other < stretch.high → label ≤ label_at paths stretch.depth other

-- the part of a stretch with the first label from one on
pub record IsPartFrom (paths : List (List ℕ)) (stretch : Stretch) (from label low high : ℕ) : Type 0 where
  pub with : IsPartWith paths stretch label low high
  pub some : low < high
  pub reached : from ≤ label
  pub before : (place : ℕ) → stretch.low ≤ place → place < low → label_at paths stretch.depth place < from

-- whether the path at a place has no more than `depth` labels
abbrev pub ends_at : List (List ℕ) → ℕ → ℕ → Bool
ends_at paths depth place = length (slice_index_or paths place []) == depth
