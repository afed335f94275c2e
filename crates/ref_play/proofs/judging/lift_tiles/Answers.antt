use Rattle.std.proofs.Common.{arith, refl, sym, ◌∙◌, subst}
use Rattle.std.specs.Prelude.{IsSome}
use Rattle.ref_play.proofs.Taking.{off_at, without_tiles_more}
use Rattle.ref_play.proofs.judging.lift_tiles.Goals as goal

pub lift-requires : goal.lift-requires
lift-requires c =
    let next = off_at c.loop-placed.board c.args.tiles.now c.loop-placed.placed-index c.placed-item.result (omega arith) c.placed-item.is c.loop-placed.invariant.rising c.loop-placed.invariant.there in
    subst IsSome (sym next.there) refl

pub loop-placed-preserved : goal.loop-placed-preserved
loop-placed-preserved c =
    let tiles = c.args.tiles.now in
    let next = off_at c.loop-placed.board tiles c.loop-placed.placed-index c.placed-item.result (omega arith) c.placed-item.is c.loop-placed.invariant.rising c.loop-placed.invariant.there in
    rw c.lift.ensures.lifted (record {
      rest = sym (without_tiles_more c.loop-placed.board tiles c.loop-placed.placed-index c.placed-item.result (omega arith) c.placed-item.is) ∙ c.loop-placed.invariant.rest;
      rising = next.rising;
      there = next.others;
    })
