use Rattle.std.proofs.Common.{◌+◌, ◌<◌, length, sym, ap, ◌∙◌, arith}
use Rattle.ref_tiles.specs.Counting.{count_of, with_count}
use Rattle.game_deal.proofs.CountedTiles.{none_on_board, no_tile, few_on_board, empty_cell, full_cell}
use Rattle.game_deal.proofs.recording.on_board.Goals as goal
use Rattle.game_deal.proofs.recording.on_board.Goals.{in-Some, in_default}

pub loop-cell-init : goal.loop-cell-init
loop-cell-init c = c.new-tiles.ensures ∙ sym none_on_board

pub add-requires : goal.add-requires
add-requires c =
    let kind = c.in-Some.tile.kind in
    let few = few_on_board c.cells-cell-items.result.now c.loop-cell.cell-index kind in
    let same = ap (λ tiles. count_of tiles kind) c.loop-cell.invariant in
    let size = ap length c.cells-cell-items.ensures.cells in
    omega (arith, c.cells-cell-items.ensures.size)

pub loop-cell-preserved : goal.loop-cell-preserved
loop-cell-preserved c =
    let cells = c.cells-cell-items.result.now in
    let i = c.loop-cell.cell-index in
    let cell = c.cell-item.result in
    let within : i < length cells = omega arith in
    elim c.match-cell.branch [
      | in-Some w ↦
          w.tiles-is ∙ w.add.ensures ∙ ap (λ tiles. with_count tiles w.in-Some.tile.kind (count_of tiles w.in-Some.tile.kind + 1)) c.loop-cell.invariant
          ∙ full_cell cells i cell w.in-Some.tile within c.cell-item.is w.in-Some.is
      | in_default w ↦ w.tiles-is ∙ c.loop-cell.invariant ∙ sym (empty_cell cells i cell within c.cell-item.is (no_tile cell w.in_default.not-Some))
    ]
