-- The placements that a rack and a list of words allow on a board.
use Rattle.std.specs.Prelude.{◌≡◌, ℕ, ◌≤◌, ◌==◌, true, List, All, Contains, Option, slice_index, count_by}
use Rattle.ref_tiles.specs.declared.tiles.Tile.{Tile}
use Rattle.ref_tiles.specs.Kinds.{number_of}
use Rattle.ref_board.specs.declared.directions.Dir.{Dir}
use Rattle.ref_board.specs.declared.directions.Dir.TheVariants.{Across}
use Rattle.ref_play.specs.declared.placed.Placed.{Placed}
use Rattle.ref_play.specs.Placements.{is_play}
use Rattle.ref_play.specs.Words.{words_formed}
use Rattle.ref_play.specs.Legality.{IsLegal}

-- the number of tiles of the kind with this number that a placement puts down
abbrev pub used : List Placed → ℕ → ℕ
used ps k = count_by (λ (p : Placed). number_of p.tile.kind == k) ps

-- A candidate: a legal placement all of whose words are listed and whose tiles are on the rack. `rack` has the number of tiles of
-- each kind.
pub record IsCandidate (words : List (List ℕ)) (board : List (Option Tile)) (rack : List ℕ) (ps : List Placed) : Type 0 where
  pub play : (d : Dir) × (is_play d ps ≡ true)
  pub legal : IsLegal board ps
  pub listed : All (Contains words) (words_formed Across board ps)
  pub from : (k : ℕ) → used ps k ≤ slice_index rack k
