use Rattle.std.proofs.Common.{◌+◌, ◌<◌, length, sym, ap, ◌∙◌, arith}
use Rattle.ref_tiles.specs.Counting.{count_of, with_count}
use Rattle.game_deal.proofs.CountedTiles.{none_placed, few_placed, one_placed}
use Rattle.game_deal.proofs.recording.placed_tiles.Goals as goal

pub loop-new-init : goal.loop-new-init
loop-new-init c = c.new-tiles.ensures ∙ sym none_placed

pub add-requires : goal.add-requires
add-requires c =
    let kind = c.new-item.result.tile.kind in
    let few = few_placed c.args.placed.now c.loop-new.new-index kind in
    let same = ap (λ tiles. count_of tiles kind) c.loop-new.invariant in
    omega (arith, c.requires)

pub loop-new-preserved : goal.loop-new-preserved
loop-new-preserved c =
    let kind = c.new-item.result.tile.kind in
    let within : c.loop-new.new-index < length c.args.placed.now = omega arith in
    c.add.ensures ∙ ap (λ tiles. with_count tiles kind (count_of tiles kind + 1)) c.loop-new.invariant
    ∙ one_placed c.args.placed.now c.loop-new.new-index c.new-item.result within c.new-item.is
