use Rattle.std.proofs.Common.{ℕ, ◌≡◌, ◌<◌, true, length, slice_index}
use Rattle.gen_line.specs.Cells.{cell_at, is_anchor_cell}
use Rattle.gen_moves.specs.Closing.{open_in}
use Rattle.gen_moves.specs.Bounds.{IsAnchorBound, place_in}
use Rattle.gen_moves.proofs.anchors.line_bounds.Given as goal

abbrev pub invariant-loop-anchor : goal.invariant-loop-anchor
invariant-loop-anchor l = record {
  size : length l.bounds ≡ 15;
  bounds : (h : ℕ) → h < l.anchor → is_anchor_cell (cell_at l.cells h) ≡ true → IsAnchorBound l.rules.bonus l.worth.points l.worth.ones l.cells (place_in l.places) (open_in l.opens) h (slice_index l.bounds h);
}
