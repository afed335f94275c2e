-- The cells of a line, filled in place by place, and the lines of a direction.
use Rattle.std.proofs.Common.{◌≡◌, ◌↔◌, ℕ, ◌+◌, ◌<◌, true, List, length, refl, ap, sym, ◌∙◌, Option, Some, None}
use Rattle.ref_tiles.specs.declared.tiles.Tile.{Tile}
use Rattle.ref_board.specs.declared.directions.Dir.{Dir}
use Rattle.ref_board.specs.Lines.{square_at}
use Rattle.ref_board.specs.Cells.{tile_at}
use Rattle.ref_board.specs.Anchors.{IsAnchor}
use Rattle.gen_cross.specs.Values.{IsMask}
use Rattle.gen_line.specs.declared.cells.Cell.{Cell}
use Rattle.gen_line.specs.declared.cells.Cell.TheVariants.{Old, Free}
use Rattle.gen_line.specs.declared.cells.Open.{Open}
use Rattle.gen_line.specs.Cells.{cell_at}
use Rattle.gen_moves.specs.BoardLines.{IsCellOf, IsLineOf}

pub cell_old : (words : List (List ℕ)) (d : Dir) (board : List (Option Tile)) (square : ℕ) (tile : Tile) → tile_at board square ≡ Some tile → IsCellOf words d board square (Old (tile.shown.index + 1))
cell_old words d board square tile there =
    record {
      old = λ t e. let same : Some tile ≡ Some t = sym there ∙ e in let is : tile ≡ t = cc in ap (λ (u : Tile). Old (u.shown.index + 1)) is;
      free = λ e. let same : Some tile ≡ None = sym there ∙ e in cc;
    }

pub cell_free : (words : List (List ℕ)) (d : Dir) (board : List (Option Tile)) (square : ℕ) (m : Open) → tile_at board square ≡ None → ((m.anchor ≡ true) ↔ IsAnchor board square)
    → IsMask words d board square m.mask → IsCellOf words d board square (Free m)
cell_free words d board square m there anchor mask =
    record {
      old = λ t e. let same : None ≡ Some t = sym there ∙ e in cc;
      free = λ e. (m, refl, anchor, mask);
    }

pub line_is : (words : List (List ℕ)) (d : Dir) (board : List (Option Tile)) (line : ℕ) (cells : List Cell) → length cells ≡ 15
    → ((place : ℕ) → place < 15 → IsCellOf words d board (square_at d line place) (cell_at cells place)) → IsLineOf words d board line cells
line_is words d board line cells size each =
    record {
      size = size;
      old = λ i tile below there. (each i below).old tile there;
      free = λ i below there. (each i below).free there;
    }
