-- The most that a move of a line scores, by what each place of its stretch adds.
use Rattle.std.specs.Prelude.{◌≡◌, ◌≢◌, ℕ, ◌+◌, ◌*◌, ◌^◌, ◌<◌, ◌≤◌, ◌||◌, not, nat_le, Bool, true, List, Option, None, is_some, if◌then◌else◌}
use Rattle.ref_tiles.specs.declared.rulebook.TheConstants.{SIDE}
use Rattle.ref_tiles.specs.declared.tiles.Tile.{Tile}
use Rattle.ref_tiles.specs.declared.rulebook.Rules.{Rules}
use Rattle.ref_board.specs.Runs.{IsWhole}
use Rattle.ref_play.specs.Scores.{points_on}
use Rattle.gen_moves.specs.declared.places.Place.{Place}
use Rattle.ref_board.specs.declared.directions.Dir.{Dir}
use Rattle.gen_moves.specs.declared.tallies.Tally.{Tally}
use Rattle.gen_moves.specs.LineTiles.{line_tiles, new_tile}
use Rattle.gen_moves.specs.Bounds.{total, times, free_count, IsSmall, ReportsUnder}

-- the points of the new tile on a place; a blank has none
abbrev pub points_at : Rules → (ℕ → Option Tile) → ℕ → ℕ
points_at rules tiles i = points_on rules (tiles i)

-- whether a place has an old tile or a new one
abbrev pub is_laid : (ℕ → Place) → (ℕ → Option Tile) → ℕ → Bool
is_laid places tiles i = not (places i).free || is_some (tiles i)

-- what a place adds to the word of the stretch, and its cross word to the score
abbrev pub letter_sum : Rules → (ℕ → Place) → (ℕ → Option Tile) → ℕ → ℕ
letter_sum rules places tiles i = (places i).old + (places i).letter * points_at rules tiles i

abbrev pub cross_sum : Rules → (ℕ → Place) → (ℕ → Option Tile) → ℕ → ℕ
cross_sum rules places tiles i = (places i).side + (places i).cross * points_at rules tiles i

-- the word of a stretch, its cross words, and the bonus
abbrev pub tally : Rules → (ℕ → Place) → (ℕ → Option Tile) → ℕ → ℕ → ℕ
tally rules places tiles first len =
    total (letter_sum rules places tiles) first len * times (λ i. (places i).word) first len
    + total (cross_sum rules places tiles) first len
    + (if nat_le 7 (free_count places first len) then rules.bonus else 0)

-- The most that `len` places add up to, so that no number overflows: for a place at its most (IsSmall), with the 99 points that a
-- tile has at most. An old tile of the word counts once, a new one once for each time of its letter premium.
pub record IsSmallTally (len : ℕ) (t : Tally) : Type 0 where
  pub letters : t.letters ≤ (99 + 3 * 99) * len
  pub word : t.word ≤ 3 ^ len
  pub crosses : t.crosses ≤ (196605 + 9 * 99) * len
  pub free : t.free ≤ len

-- the new tiles of a line lie in one whole stretch of it, and there is one
pub record LiesOn (places : ℕ → Place) (tiles : ℕ → Option Tile) (first len : ℕ) : Type 0 where
  pub whole : IsWhole (is_laid places tiles) first len
  pub within : (i : ℕ) → i < SIDE → tiles i ≢ None → (first ≤ i) × (i < first + len)
  pub some : (i : ℕ) × (first ≤ i) × (i < first + len) × ((places i).free ≡ true)

abbrev pub AreSmall : (ℕ → Place) → Type 0
AreSmall places = (i : ℕ) → i < SIDE → IsSmall (places i)

-- a move has a stretch, and its play scores at most what the stretch adds up to
pub record IsTallied (rules : Rules) (board : List (Option Tile)) (d : Dir) (line : ℕ) (places : ℕ → Place) (y : List ℕ) : Type 0 where
  pub first : ℕ
  pub len : ℕ
  pub lies : LiesOn places (new_tile (line_tiles y)) first len
  pub under : ReportsUnder rules board d line y (tally rules places (new_tile (line_tiles y)) first len)
