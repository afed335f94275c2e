-- Upper bounds of the scores of the plays of a stretch, by what each of its places adds and the points of the rack.
use Rattle.std.specs.Prelude.{◌≡◌, ℕ, zero, suc, ◌+◌, ◌-◌, ◌*◌, ◌^◌, ◌<◌, ◌≤◌, ◌≤ℤ◌, pos, Bool, true, false, ◌==◌, nat_le, List, Option, None, IsSome, slice_index, slice_index_or, if◌then◌else◌}
use Rattle.ref_tiles.specs.declared.rulebook.TheConstants.{SIDE, SQUARES}
use Rattle.ref_tiles.specs.declared.tiles.Tile.{Tile}
use Rattle.ref_tiles.specs.declared.rulebook.Rules.{Rules}
use Rattle.ref_tiles.specs.Rulebook.{points_of, premium_at, letter_factor, word_factor}
use Rattle.ref_board.specs.declared.directions.Dir.{Dir}
use Rattle.ref_board.specs.Lines.{square_at, other_dir}
use Rattle.ref_board.specs.Cells.{tile_at}
use Rattle.ref_play.specs.Scores.{points_on}
use Rattle.ref_play.specs.Crosses.{cross_score}
use Rattle.ref_play.specs.Best.{Given}
use Rattle.gen_cross.specs.declared.crosses.Cross.{Cross}
use Rattle.gen_cross.specs.Values.{value_at}
use Rattle.gen_line.specs.declared.cells.Cell.{Cell}
use Rattle.gen_line.specs.Cells.{cell_at, is_anchor_cell}
use Rattle.gen_line.specs.Walk.{Every, anchor_moves}
use Rattle.gen_moves.specs.declared.places.Place.{Place}
use Rattle.gen_moves.specs.declared.stretches.Sum.{Sum}
use Rattle.gen_moves.specs.Findings.{reported}
use Rattle.gen_moves.specs.Closing.{AreOpen, IsPassable}

-- the sum of what successive numbers give, and the product
unfoldable pub total : (ℕ → ℕ) → ℕ → ℕ → ℕ
total f a zero = 0
total f a (suc n) = total f a n + f (a + n)

unfoldable pub times : (ℕ → ℕ) → ℕ → ℕ → ℕ
times f a zero = 1
times f a (suc n) = times f a n * f (a + n)

-- a place of a line that adds nothing
abbrev pub no_place : Place
no_place = record { free = false; old = 0; letter = 0; word = 0; side = 0; cross = 0 }

-- the places of a line
abbrev pub place_in : List Place → ℕ → Place
place_in places i = slice_index_or places i no_place

-- the most that a place adds to the score of a play along its line
pub record IsPlaceOf (rules : Rules) (d : Dir) (board : List (Option Tile)) (square : ℕ) (p : Place) : Type 0 where
  pub taken : p.free ≡ false → IsSome (tile_at board square)
  pub empty : p.free ≡ true → tile_at board square ≡ None
  pub old : points_on rules (tile_at board square) ≤ p.old
  pub letter : p.free ≡ true → letter_factor (premium_at rules square) ≤ p.letter
  pub some : 1 ≤ p.word
  pub word : p.free ≡ true → word_factor (premium_at rules square) ≤ p.word
  pub cross : p.free ≡ true → (t : Tile) → cross_score rules (other_dir d) board square t ≤ p.side + p.cross * points_of rules t.kind

abbrev pub one_if : Bool → ℕ
one_if b = if b then 1 else 0

-- the number of places that are free
abbrev pub free_count : (ℕ → Place) → ℕ → ℕ → ℕ
free_count places first len = total (λ i. one_if (places i).free) first len

-- the points of a tile above one, and those of the tiles of the first `n` kinds on a rack
abbrev pub kind_points : Rules → ℕ → ℕ
kind_points rules k = (if k == 26 then 0 else slice_index rules.points k) - 1

unfoldable pub rack_points : Rules → List ℕ → ℕ → ℕ
rack_points rules rack n = total (λ k. slice_index rack k * kind_points rules k) 0 n

-- one if a tile has points, and the number of tiles of the first `n` kinds on a rack that have some
abbrev pub kind_one : Rules → ℕ → ℕ
kind_one rules k = (if k == 26 then 0 else slice_index rules.points k) - kind_points rules k

unfoldable pub rack_ones : Rules → List ℕ → ℕ → ℕ
rack_ones rules rack n = total (λ k. slice_index rack k * kind_one rules k) 0 n

-- the smaller of two numbers
abbrev pub least : ℕ → ℕ → ℕ
least a b = if nat_le a b then a else b

-- The bound of the plays of a stretch, from a letter premium and a factor of cross words that no free place of the stretch exceeds:
-- one point for each of its new tiles that can have points, once more for each time above one that a letter premium counts it, and
-- for each time that a cross word does, these by the places or by the tiles; plus what the tiles of the rack have above one point.
abbrev pub stretch_bound : ℕ → (ℕ → Place) → ℕ → ℕ → ℕ → ℕ → ℕ → ℕ → ℕ
stretch_bound bonus places first len points ones letter cross =
    (total (λ i. (places i).old) first len + (least (total (λ i. (places i).letter - 1) first len) ((letter - 1) * ones) + least ones (free_count places first len)) + letter * points)
    * times (λ i. (places i).word) first len
    + (total (λ i. (places i).side) first len + least (total (λ i. (places i).cross) first len) (cross * ones) + cross * points)
    + (if nat_le 7 (free_count places first len) then bonus else 0)

-- an upper bound for the plays of a stretch, from some such letter premium and some such factor
pub record IsWithin (bonus points ones : ℕ) (places : ℕ → Place) (first len bound : ℕ) : Type 0 where
  pub letter : ℕ
  pub cross : ℕ
  pub letters : (i : ℕ) → first ≤ i → i < first + len → (places i).free ≡ true → (places i).letter ≤ letter
  pub crosses : (i : ℕ) → first ≤ i → i < first + len → (places i).free ≡ true → (places i).cross ≤ cross
  pub within : stretch_bound bonus places first len points ones letter cross ≤ bound

-- an upper bound for the plays whose stretch begins at a place, by the places that may have a tile
abbrev pub IsBoundFrom : ℕ → ℕ → ℕ → (ℕ → Place) → (ℕ → Bool) → ℕ → ℕ → Type 0
IsBoundFrom bonus points ones places opens first bound =
    (len : ℕ) → first + len ≤ SIDE → free_count places first len ≤ 7 → IsPassable opens first len → IsWithin bonus points ones places first len bound

-- an upper bound for the plays of an anchor: their stretch has the anchor, and none before it
abbrev pub IsAnchorBound : ℕ → ℕ → ℕ → List Cell → (ℕ → Place) → (ℕ → Bool) → ℕ → ℕ → Type 0
IsAnchorBound bonus points ones cells places opens h bound =
    (first : ℕ) → first ≤ h → ((i : ℕ) → first ≤ i → i < h → is_anchor_cell (cell_at cells i) ≡ false)
    → (len : ℕ) → h < first + len → first + len ≤ SIDE → free_count places first len ≤ 7 → IsPassable opens first len
    → IsWithin bonus points ones places first len bound

-- the sums and products of a stretch
pub record IsSum (places : ℕ → Place) (first len : ℕ) (sum : Sum) : Type 0 where
  pub old : sum.old ≡ total (λ i. (places i).old) first len
  pub word : sum.word ≡ times (λ i. (places i).word) first len
  pub side : sum.side ≡ total (λ i. (places i).side) first len
  pub free : sum.free ≡ free_count places first len
  pub letters : sum.letters ≡ total (λ i. (places i).letter - 1) first len
  pub crosses : sum.crosses ≡ total (λ i. (places i).cross) first len
  pub letter : (i : ℕ) → first ≤ i → i < first + len → (places i).free ≡ true → (places i).letter ≤ sum.letter
  pub cross : (i : ℕ) → first ≤ i → i < first + len → (places i).free ≡ true → (places i).cross ≤ sum.cross

-- The most that a place has: the rules give a tile at most 99 points and a premium at most the factor three, a cross word counts a
-- new tile by a letter and a word premium, and old tiles of 65,535 points by a word premium.
pub record IsSmall (p : Place) : Type 0 where
  pub old : p.old ≤ 99
  pub letter : p.letter ≤ 3
  pub some : 1 ≤ p.word
  pub word : p.word ≤ 3
  pub side : p.side ≤ 196605
  pub cross : p.cross ≤ 9

-- the most that `len` places add up to, so that no number overflows
pub record IsSmallSum (len : ℕ) (sum : Sum) : Type 0 where
  pub old : sum.old ≤ 99 * len
  pub word : sum.word ≤ 3 ^ len
  pub side : sum.side ≤ 196605 * len
  pub free : sum.free ≤ len
  pub letters : sum.letters ≤ 3 * len
  pub crosses : sum.crosses ≤ 9 * len
  pub letter : sum.letter ≤ 3
  pub cross : sum.cross ≤ 9

-- the places of a line of the board
abbrev pub ArePlaces : Rules → Dir → List (Option Tile) → ℕ → (ℕ → Place) → Type 0
ArePlaces rules d board line places = (i : ℕ) → i < SIDE → IsPlaceOf rules d board (square_at d line i) (places i)

-- no tile scores more across a play than the side score of its square says
abbrev pub HasScores : Rules → List (Option Tile) → Cross → Type 0
HasScores rules board cross =
    (d : Dir) (square : ℕ) (t : Tile) → square < SQUARES → tile_at board square ≡ None
    → cross_score rules (other_dir d) board square t ≤ ((value_at cross d square).side + points_of rules t.kind * letter_factor (premium_at rules square)) * word_factor (premium_at rules square)

-- each play that a move gives scores at most `bound`
abbrev pub ReportsUnder : Rules → List (Option Tile) → Dir → ℕ → List ℕ → ℕ → Type 0
ReportsUnder rules board d line y bound = Every (λ (given : Given). given.score ≤ℤ pos bound) (reported rules board d line y)

-- what is known about a move of an anchor: its play exceeds no bound of the anchor
abbrev pub IsOffer : Rules → ℕ → ℕ → List (Option Tile) → Dir → ℕ → List Cell → (ℕ → Place) → (ℕ → Bool) → ℕ → List ℕ → Type 0
IsOffer rules points ones board d line cells places opens h y =
    (bound : ℕ) → IsAnchorBound rules.bonus points ones cells places opens h bound → ReportsUnder rules board d line y bound

-- which holds for all moves of a line
abbrev pub AreOffers : Rules → ℕ → ℕ → List (Option Tile) → (List ℕ → Bool) → List Cell → List ℕ → Dir → ℕ → Type 0
AreOffers rules points ones board g cells rack d line =
    (places : ℕ → Place) → ArePlaces rules d board line places → (opens : ℕ → Bool) → AreOpen cells rack opens
    → (h : ℕ) → h < SIDE → Every (IsOffer rules points ones board d line cells places opens h) (anchor_moves g cells rack h)
