-- The moves of a line: which entries a list of words and a rack allow.
use Rattle.std.specs.Prelude.{◌≡◌, ◌≢◌, ℕ, ◌+◌, ◌<◌, ◌≤◌, Bool, true, List, [], ◌∷◌, ◌++◌, length, All, slice_index}
use Rattle.ref_tiles.specs.declared.rulebook.TheConstants.{SIDE}
use Rattle.ref_board.specs.Runs.{IsWhole}
use Rattle.gen_line.specs.declared.cells.Cell.{Cell}
use Rattle.gen_line.specs.declared.cells.Cell.TheVariants.{Old}
use Rattle.gen_line.specs.Entries.{uses}
use Rattle.gen_line.specs.Cells.{cell_at, is_anchor_cell, cell_ok, full_on, labels}

-- A move of a line: the new tiles lie on free places that allow them, in one whole stretch that spells a listed
-- word, and one of them on an anchor.
pub record IsMove (listed : List ℕ → Bool) (line : List Cell) (rack y : List ℕ) (first len : ℕ) : Type 0 where
  pub size : length y ≡ SIDE
  pub whole : IsWhole (full_on line y) first len
  pub allowed : (i : ℕ) → i < SIDE → cell_ok (cell_at line i) (slice_index y i) ≡ true
  pub within : (i : ℕ) → i < SIDE → slice_index y i ≢ 0 → (first ≤ i) × (i < first + len)
  pub anchored : (i : ℕ) × (i < SIDE) × (slice_index y i ≢ 0) × (is_anchor_cell (cell_at line i) ≡ true)
  pub word : listed (labels line y first len) ≡ true
  pub fits : (k : ℕ) → uses k y ≤ slice_index rack k

-- a line has a cell for each place, and its old tiles have labels above the mark's
pub record Labelled (line : List Cell) : Type 0 where
  pub size : length line ≡ SIDE
  pub old : (i a : ℕ) → i < SIDE → cell_at line i ≡ Old a → 0 < a

-- labels read backwards, and others after them
abbrev pub back : List ℕ → List ℕ → List ℕ
back [] ys = ys
back (x ∷ xs) ys = back xs (x ∷ ys)

-- labels after a mark, if there are any
abbrev pub after_mark : List ℕ → List ℕ
after_mark [] = []
after_mark (l ∷ ls) = 0 ∷ l ∷ ls

-- The paths of a word are those of its splits: a string of labels other than the mark, and others after a mark, are a path exactly
-- when the labels backwards, and the rest after them, are a word.
abbrev pub AreSplits : (List ℕ → Bool) → (List ℕ → Bool) → Type 0
AreSplits g listed = (ls rest : List ℕ) → 0 < length ls → All (λ l. 0 < l) ls → g (ls ++ after_mark rest) ≡ listed (back ls rest)
