-- The words that a placement forms: the letters shown on its runs.
use Rattle.std.specs.Prelude.{ℕ, ◌+◌, ◌≤◌, List, map, Option, Some, None}
use Rattle.std.specs.List.{range_with_len}
use Rattle.ref_tiles.specs.declared.tiles.Tile.{Tile}
use Rattle.ref_board.specs.declared.directions.Dir.{Dir}
use Rattle.ref_board.specs.Lines.{place_of}
use Rattle.arrayvec.specs.ArrayVec.{ArrayVec}
use Rattle.ref_board.specs.Cells.{tile_at}
use Rattle.ref_play.specs.declared.placed.Placed.{Placed}
use Rattle.ref_play.specs.declared.runs.Run.{Run}
use Rattle.ref_play.specs.Placements.{with_tiles}
use Rattle.ref_play.specs.Formed.{along, runs_formed}

-- the letter that a square shows, as a capital
abbrev pub capital_shown : Option Tile → ℕ
capital_shown None = 0
capital_shown (Some tile) = tile.shown.index + 65

-- the letters shown on a run, in its order
unfoldable pub letters_of : List (Option Tile) → Run → List ℕ
letters_of after run = map (λ k. capital_shown (tile_at after (along run.dir run.start k))) (range_with_len 0 run.len)

-- the words of a placement, the run of its direction first and then the cross runs in the order of the new tiles
unfoldable pub words_formed : Dir → List (Option Tile) → List Placed → List (List ℕ)
words_formed d board ps = map (letters_of (with_tiles board ps)) (runs_formed d (with_tiles board ps) ps)

-- a run that stays on its line
abbrev pub IsWithin : Run → Type 0
IsWithin run = place_of run.dir run.start + run.len ≤ 15

-- the letters of words
abbrev pub items_of : List (ArrayVec ℕ) → List (List ℕ)
items_of words = map (λ word. word.items) words
