-- Laws: the moves of the lines of a board are the candidates.
use Rattle.std.specs.Prelude.{◌≡◌, ◌↔◌, ℕ, ◌<◌, ◌≤◌, Bool, true, List, length, map, Option, All, Contains}
use Rattle.ref_tiles.specs.declared.rulebook.TheConstants.{SIDE, SQUARES}
use Rattle.gen_line.specs.declared.takers.TheConstants.{ENTRIES}
use Rattle.lex_list.specs.RotatedPaths.{letter_of}
use Rattle.ref_tiles.specs.declared.tiles.Tile.{Tile}
use Rattle.ref_tiles.specs.declared.rulebook.Rules.{Rules}
use Rattle.ref_board.specs.declared.directions.Dir.{Dir}
use Rattle.ref_play.specs.declared.placed.Placed.{Placed}
use Rattle.ref_play.specs.Placements.{with_tiles}
use Rattle.ref_play.specs.Directions.{LiesIn}
use Rattle.ref_play.specs.Candidates.{IsCandidate}
use Rattle.ref_play.specs.Best.{AreAll}
use Rattle.gen_line.specs.declared.cells.Cell.{Cell}
use Rattle.gen_line.specs.Moves.{IsMove, AreSplits}
use Rattle.gen_moves.specs.BoardLines.{IsLineOf}
use Rattle.gen_moves.specs.LineTiles.{tiles_of, entries_of}
use Rattle.gen_moves.specs.Findings.{given_by}

-- a test of strings of labels accepts the words of a list
abbrev pub ReportsWords : (List ℕ → Bool) → List (List ℕ) → Type 0
ReportsWords listed words = (labels : List ℕ) → (listed labels ≡ true) ↔ Contains words (map letter_of labels)

-- each word has two letters or more
abbrev pub AreLong : List (List ℕ) → Type 0
AreLong words = (word : List ℕ) → Contains words word → 2 ≤ length word

-- an entry for each place of a line
abbrev pub AreEntries : List ℕ → Type 0
AreEntries y = (length y ≡ SIDE) × All (λ e. e < ENTRIES) y

-- a candidate whose tiles lie in one whole stretch of a line, of two places or more
pub record IsCandidateOn (words : List (List ℕ)) (d : Dir) (board : List (Option Tile)) (rack : List ℕ) (ps : List Placed) (line first len : ℕ) : Type 0 where
  pub candidate : IsCandidate words board rack ps
  pub lies : LiesIn d (with_tiles board ps) ps line first len
  pub long : 2 ≤ len

-- entries that put down at most seven tiles are a move of a line exactly when their tiles are a candidate on it
abbrev pub MovesAreCandidates : Type 0
MovesAreCandidates =
    (words : List (List ℕ)) (d : Dir) (board : List (Option Tile)) (line : ℕ) (cells : List Cell) (listed : List ℕ → Bool) (rack y : List ℕ) (first len : ℕ)
    → length board ≡ SQUARES → line < SIDE → IsLineOf words d board line cells → ReportsWords listed words → AreLong words → length (tiles_of d line y) ≤ 7
    → IsMove listed cells rack y first len ↔ (AreEntries y × IsCandidateOn words d board rack (tiles_of d line y) line first len)

-- and each candidate on a line is what the entries of a move put down
abbrev pub CandidatesAreMoves : Type 0
CandidatesAreMoves =
    (words : List (List ℕ)) (d : Dir) (board : List (Option Tile)) (line : ℕ) (cells : List Cell) (listed : List ℕ → Bool) (rack : List ℕ) (ps : List Placed) (first len : ℕ)
    → length board ≡ SQUARES → line < SIDE → IsLineOf words d board line cells → ReportsWords listed words → IsCandidateOn words d board rack ps line first len
    → IsMove listed cells rack (entries_of d line ps) first len × (tiles_of d line (entries_of d line ps) ≡ ps)

-- the lines of a board, a list of words, its test and that of the paths of its splits
pub record Setting (words : List (List ℕ)) (board : List (Option Tile)) (g listed : List ℕ → Bool) (cells : Dir → ℕ → List Cell) : Type 0 where
  pub size : length board ≡ SQUARES
  pub lines : (d : Dir) (line : ℕ) → line < SIDE → IsLineOf words d board line (cells d line)
  pub splits : AreSplits g listed
  pub reported : ReportsWords listed words
  pub long : AreLong words

-- what the lines of a board give, in both directions, is all candidates, each once
abbrev pub AllAreGiven : Type 0
AllAreGiven =
    (rules : Rules) (words : List (List ℕ)) (board : List (Option Tile)) (g listed : List ℕ → Bool) (cells : Dir → ℕ → List Cell) → Setting words board g listed cells
    → (rack : List ℕ) → AreAll rules words board rack (given_by rules board g cells rack)
