-- Boards and cross-sets that follow one another, one put, lift or play after another.
use Rattle.std.specs.Prelude.{◌≡◌, ◌⊎◌, ℕ, ◌<◌, false, List, [], ◌∷◌, Option, slice_index_or}
use Rattle.ref_tiles.specs.declared.rulebook.TheConstants.{SQUARES}
use Rattle.ref_tiles.specs.declared.letters.Letter.{Letter}
use Rattle.ref_tiles.specs.declared.tiles.Tile.{Tile}
use Rattle.ref_tiles.specs.declared.rulebook.Rules.{Rules}
use Rattle.ref_board.specs.declared.directions.Dir.{Dir}
use Rattle.ref_play.specs.declared.placed.Placed.{Placed}
use Rattle.gen_cross.specs.declared.crosses.Cross.{Cross}
use Rattle.gen_cross.specs.Values.{value_at, IsRight}
use Rattle.gen_cross.specs.Changes.{IsPut, IsLifted, DifferOn}

-- a board, and the cross-sets that are kept for it
pub record Moment : Type 0 where
  pub board : List (Option Tile)
  pub cross : Cross

-- a tile was put or lifted, or the tiles of a play were
abbrev pub IsChanged : (before after : List (Option Tile)) → Type 0
IsChanged before after = ((square : ℕ) × (IsPut square before after ⊎ IsLifted square before after)) ⊎ ((ps : List Placed) × DifferOn ps before after)

-- One change, and then the call that updates the cross-sets: they stay right if they were.
pub record IsNext (rules : Rules) (words : List (List ℕ)) (before after : Moment) : Type 0 where
  pub changed : IsChanged before.board after.board
  pub renewed : IsRight rules words before.board before.cross → IsRight rules words after.board after.cross

-- each moment follows the one before it
abbrev pub AreNext : Rules → List (List ℕ) → Moment → List Moment → Type 0
AreNext rules words first [] = Unit {0}
AreNext rules words first (next ∷ rest) = IsNext rules words first next × AreNext rules words next rest

-- the last moment
abbrev pub last_of : Moment → List Moment → Moment
last_of first [] = first
last_of first (next ∷ rest) = last_of next rest

-- all 450 values are equal: the answer for each letter, and the points beside it
abbrev pub AreSame : Cross → Cross → Type 0
AreSame a b =
    (d : Dir) (square : ℕ) → square < SQUARES
    → ((letter : Letter) → slice_index_or (value_at a d square).mask letter.index false ≡ slice_index_or (value_at b d square).mask letter.index false)
    × ((value_at a d square).side ≡ (value_at b d square).side)

-- two crosses that are right for one board are equal
abbrev pub RightAreSame : Type 0
RightAreSame =
    (rules : Rules) (words : List (List ℕ)) (board : List (Option Tile)) (a b : Cross) → IsRight rules words board a → IsRight rules words board b → AreSame a b

-- what is right at the first moment is right at the last, and so equal to any cross that is right for the last board
abbrev pub KeptAreSame : Type 0
KeptAreSame =
    (rules : Rules) (words : List (List ℕ)) (first : Moment) (rest : List Moment) (made : Cross) → IsRight rules words first.board first.cross → AreNext rules words first rest
    → IsRight rules words (last_of first rest).board made → AreSame (last_of first rest).cross made
