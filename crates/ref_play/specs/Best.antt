-- Which placements rank before others, and the best of those that a rack and a list of words allow.
use Rattle.std.specs.Prelude.{◌≡◌, ◌≢◌, ℕ, ℤ, pos, ◌<◌, List, All, Contains, Option, Some, None, ◌⊎◌}
use Rattle.std.specs.List.{AllPairs}
use Rattle.ref_tiles.specs.declared.tiles.Tile.{Tile}
use Rattle.ref_tiles.specs.declared.rulebook.Rules.{Rules}
use Rattle.ref_board.specs.declared.directions.Dir.{Dir}
use Rattle.ref_play.specs.declared.placed.Placed.{Placed}
use Rattle.ref_play.specs.Scores.{score_of}
use Rattle.ref_play.specs.Directions.{direction_of}
use Rattle.ref_play.specs.Notations.{ComesBefore}
use Rattle.ref_play.specs.Candidates.{IsCandidate}

-- one placement scores more than another, or scores as much and comes before it
abbrev pub Outranks : Rules → List (Option Tile) → List Placed → List Placed → Type 0
Outranks rules board a b = (score_of rules board b < score_of rules board a) ⊎ ((score_of rules board a ≡ score_of rules board b) × ComesBefore board a b)

-- the best: a candidate that outranks every other
pub record IsBest (rules : Rules) (words : List (List ℕ)) (board : List (Option Tile)) (rack : List ℕ) (ps : List Placed) : Type 0 where
  pub candidate : IsCandidate words board rack ps
  pub outranks : (qs : List Placed) → IsCandidate words board rack qs → (qs ≡ ps) ⊎ Outranks rules board ps qs

-- a play and its score, as an answer gives them
pub record Given : Type 0 where
  pub dir : Dir
  pub tiles : List Placed
  pub score : ℤ

-- a placement, in the direction in which it is written, with its score
abbrev pub given_of : Rules → List (Option Tile) → List Placed → Given
given_of rules board ps = record { dir = direction_of board ps; tiles = ps; score = pos (score_of rules board ps) }

-- what an annotator answers: the best candidate with its score, or that there is no candidate
abbrev pub IsAnnotation : Rules → List (List ℕ) → List (Option Tile) → List ℕ → Option Given → Type 0
IsAnnotation rules words board rack None = (ps : List Placed) → IsCandidate words board rack ps → ⊥
IsAnnotation rules words board rack (Some given) = IsBest rules words board rack given.tiles × (given ≡ given_of rules board given.tiles)

-- all candidates and no others, each once, in the direction in which it is written and with its score
pub record AreAll (rules : Rules) (words : List (List ℕ)) (board : List (Option Tile)) (rack : List ℕ) (all : List Given) : Type 0 where
  pub sound : All (λ (given : Given). IsCandidate words board rack given.tiles × (given ≡ given_of rules board given.tiles)) all
  pub complete : (ps : List Placed) → IsCandidate words board rack ps → Contains all (given_of rules board ps)
  pub once : AllPairs (λ a b. a ≢ b) all
