-- The notation of a placement, and the order of placements by it.
use Rattle.std.specs.Prelude.{◌≡◌, ℕ, ◌==◌, List, [], ◌∷◌, map, Option, Some, None, if◌then◌else◌}
use Rattle.std.specs.List.{range_with_len}
use Rattle.std.specs.declared.cmp.Ordering.{Ordering}
use Rattle.std.specs.declared.cmp.Ordering.TheVariants.{Less}
use Rattle.std.specs.Ordering.{nat_cmp, on, then_cmp}
use Rattle.std.specs.Cmp.Lexicographic.{slice_cmp}
use Rattle.ref_tiles.specs.declared.tiles.Tile.{Tile}
use Rattle.ref_tiles.specs.declared.kinds.Kind.{Kind}
use Rattle.ref_tiles.specs.declared.kinds.Kind.TheVariants as kind
use Rattle.ref_tiles.specs.declared.letters.Letter.{Letter}
use Rattle.ref_tiles.specs.declared.symbols.Symbol.{Symbol}
use Rattle.ref_tiles.specs.declared.symbols.Symbol.TheVariants as symbol
use Rattle.ref_tiles.specs.Symbols.{byte_of}
use Rattle.ref_board.specs.declared.directions.Dir.{Dir}
use Rattle.ref_board.specs.declared.directions.Dir.TheVariants.{Across, Down}
use Rattle.ref_play.specs.declared.placed.Placed.{Placed}
use Rattle.ref_play.specs.declared.runs.Run.{Run}
use Rattle.ref_play.specs.declared.notations.Notation.{Notation}
use Rattle.ref_play.specs.Placements.{with_tiles}
use Rattle.ref_play.specs.Formed.{along, runs_along}
use Rattle.ref_play.specs.Directions.{direction_of}

-- a letter tile, or a blank, that shows a letter
abbrev pub symbol_by : Kind → Letter → Symbol
symbol_by (kind.Letter l) shown = symbol.Letter shown
symbol_by kind.Blank shown = symbol.Blank shown

-- the symbol of a square in the text of a play: that of its new tile, or a dot if it has none
abbrev pub symbol_for : Option Tile → Symbol
symbol_for None = symbol.Dot
symbol_for (Some tile) = symbol_by tile.kind tile.shown

-- the new tile that a placement puts on a square
abbrev pub tile_in : List Placed → ℕ → Option Tile
tile_in [] square = None
tile_in (p ∷ ps) square = if p.square == square then Some p.tile else tile_in ps square

-- the text of a placement on a run: a symbol for each of its squares
abbrev pub text_on : List Placed → Run → List Symbol
text_on ps run = map (λ k. symbol_for (tile_in ps (along run.dir run.start k))) (range_with_len 0 run.len)

-- a text and where it is: its direction and its first square
pub record Written : Type 0 where
  pub dir : Dir
  pub at : ℕ
  pub word : List Symbol

-- a notation as a text and where it is
abbrev pub written : Notation → Written
written n = record { dir = n.dir; at = n.at; word = n.word.items }

-- the text of a placement on the first of these runs
abbrev pub written_on : List Placed → List Run → Written
written_on ps [] = record { dir = Across; at = 0; word = [] }
written_on ps (run ∷ runs) = record { dir = run.dir; at = run.start; word = text_on ps run }

-- The notation of a placement: its run in the direction in which it is written, from the run's first square on, with a
-- dot for each old tile, a capital for each letter and a small letter for each blank.
unfoldable pub notation_of : List (Option Tile) → List Placed → Written
notation_of board ps = written_on ps (runs_along (direction_of board ps) (with_tiles board ps) ps)

abbrev pub dir_number : Dir → ℕ
dir_number Across = 0
dir_number Down = 1

-- across before down, then by the first square, row by row, and then by the bytes of the text
abbrev pub written_cmp : Written → Written → Ordering
written_cmp = then_cmp (on (λ w. dir_number w.dir) nat_cmp) (then_cmp (on (λ w. w.at) nat_cmp) (on (λ w. map byte_of w.word) (slice_cmp nat_cmp)))

-- a placement comes before another by their notations
abbrev pub ComesBefore : List (Option Tile) → List Placed → List Placed → Type 0
ComesBefore board a b = written_cmp (notation_of board a) (notation_of board b) ≡ Less
