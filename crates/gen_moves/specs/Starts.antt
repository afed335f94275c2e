-- The places of a board from which plays are searched for, and what each gives.
use Rattle.std.specs.Prelude.{◌≡◌, ℕ, ◌/◌, ◌%◌, ◌<◌, nat_lt, Bool, List, [], slice_index, slice_index_or, Option, if◌then◌else◌}
use Rattle.std.specs.List.{flat_map}
use Rattle.ref_tiles.specs.declared.rulebook.TheConstants.{SIDE, SQUARES}
use Rattle.gen_moves.specs.declared.starts.TheConstants.{STARTS}
use Rattle.ref_tiles.specs.declared.tiles.Tile.{Tile}
use Rattle.ref_tiles.specs.declared.rulebook.Rules.{Rules}
use Rattle.ref_board.specs.declared.directions.Dir.{Dir}
use Rattle.ref_board.specs.declared.directions.Dir.TheVariants.{Across, Down}
use Rattle.ref_play.specs.Best.{Given}
use Rattle.gen_line.specs.declared.cells.Cell.{Cell}
use Rattle.gen_line.specs.Walk.{Every, anchor_moves}
use Rattle.gen_moves.specs.declared.starts.Start.{Start}
use Rattle.gen_moves.specs.Findings.{reported}
use Rattle.gen_moves.specs.Reporting.{IsFitMove}
use Rattle.gen_sinks.specs.Skips.{GoesDown}
use Rattle.gen_moves.specs.declared.places.Place.{Place}
use Rattle.gen_moves.specs.Bounds.{ReportsUnder, ArePlaces}
use Rattle.gen_moves.specs.Tallies.{IsTallied}
use Rattle.gen_moves.specs.OldTiles.{IsSpelt}

-- the direction of a numbered place: those of the lines across come first
abbrev pub dir_of : ℕ → Dir
dir_of k = if nat_lt k SQUARES then Across else Down

-- the bound of a place, by those of the lines of its direction
abbrev pub bound_in : List (List ℕ) → ℕ → ℕ → ℕ
bound_in bounds line place = slice_index (slice_index_or bounds line []) place

-- the place with a number, with its bound
pub record IsStartOf (across down : List (List ℕ)) (k : ℕ) (s : Start) : Type 0 where
  pub dir : s.dir ≡ dir_of k
  pub line : s.line ≡ k / SIDE % SIDE
  pub place : s.place ≡ k % SIDE
  pub bound : s.bound ≡ bound_in (if nat_lt k SQUARES then across else down) (k / SIDE % SIDE) (k % SIDE)

abbrev pub AreStarts : List (List ℕ) → List (List ℕ) → List Start → Type 0
AreStarts across down starts = (k : ℕ) (d : Start) → k < STARTS → IsStartOf across down k (slice_index_or starts k d)

-- what a place of a line gives: the plays of the moves whose first covered anchor it is
abbrev pub given_at : Rules → List (Option Tile) → (List ℕ → Bool) → (Dir → ℕ → List Cell) → List ℕ → Dir → ℕ → ℕ → List Given
given_at rules board g cells rack d line h = flat_map (reported rules board d line) (anchor_moves g (cells d line) rack h)

abbrev pub given_from : Rules → List (Option Tile) → (List ℕ → Bool) → (Dir → ℕ → List Cell) → List ℕ → Start → List Given
given_from rules board g cells rack s = given_at rules board g cells rack s.dir s.line s.place

-- none of these plays exceeds a bound
abbrev pub AreUnder : Rules → List (Option Tile) → (List ℕ → Bool) → List Cell → List ℕ → Dir → ℕ → ℕ → ℕ → Type 0
AreUnder rules board g cells rack d line h bound = Every (λ y. ReportsUnder rules board d line y bound) (anchor_moves g cells rack h)

-- a play is written in a direction, as far as a sink distinguishes directions
abbrev pub GoesAlong : Option (List (Option Tile)) → Dir → Given → Type 0
GoesAlong board Across given = Unit {0}
GoesAlong board Down given = GoesDown board given

-- what is known about a start: its place is on the board, its moves are plays, none of them exceeds its bound or what its stretch
-- adds up to, and the lexicon has the paths of words
pub record IsGood (rules : Rules) (board : List (Option Tile)) (g : List ℕ → Bool) (cells : Dir → ℕ → List Cell) (rack : List ℕ) (s : Start) : Type 0 where
  pub line : s.line < SIDE
  pub place : s.place < SIDE
  pub fits : Every (IsFitMove board s.dir s.line) (anchor_moves g (cells s.dir s.line) rack s.place)
  pub under : AreUnder rules board g (cells s.dir s.line) rack s.dir s.line s.place s.bound
  pub tallied : (places : ℕ → Place) → ArePlaces rules s.dir board s.line places → Every (IsTallied rules board s.dir s.line places) (anchor_moves g (cells s.dir s.line) rack s.place)
  pub spelt : IsSpelt g (cells s.dir s.line)
