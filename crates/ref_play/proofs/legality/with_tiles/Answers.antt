use Rattle.std.proofs.Common.{arith, sym, ◌∙◌}
use Rattle.ref_play.proofs.Placing.{next_at, with_tiles_more}
use Rattle.ref_play.proofs.legality.with_tiles.Goals as goal

pub put-requires : goal.put-requires
put-requires c =
    (next_at c.loop-placed.after c.args.tiles.now c.loop-placed.placed-index c.placed-item.result (omega arith) c.placed-item.is c.loop-placed.invariant.rising c.loop-placed.invariant.free).free

pub loop-placed-preserved : goal.loop-placed-preserved
loop-placed-preserved c =
    let tiles = c.args.tiles.now in
    let next = next_at c.loop-placed.after tiles c.loop-placed.placed-index c.placed-item.result (omega arith) c.placed-item.is c.loop-placed.invariant.rising c.loop-placed.invariant.free in
    rw c.put.ensures (record {
      rest = sym (with_tiles_more c.loop-placed.after tiles c.loop-placed.placed-index c.placed-item.result (omega arith) c.placed-item.is) ∙ c.loop-placed.invariant.rest;
      rising = next.rising;
      free = next.others_free;
    })
