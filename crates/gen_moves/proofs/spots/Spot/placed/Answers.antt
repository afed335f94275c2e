use Rattle.std.proofs.Common.{◌≡◌, length, get_or, List, ap, ◌∙◌, arith, Option, None}
use Rattle.std.proofs.lemmas.List.{length_push, get_or_default}
use Rattle.arrayvec.specs.ArrayVec.{ArrayVec}
use Rattle.ref_tiles.specs.declared.tiles.Tile.{Tile}
use Rattle.ref_play.specs.declared.placed.Placed.{Placed}
use Rattle.gen_moves.specs.LineTiles.{new_tile, placement_of}
use Rattle.gen_moves.proofs.Entering.{put_from}
use Rattle.gen_moves.proofs.Writing.{put_some, put_none}
use Rattle.gen_moves.proofs.spots.Spot.placed.Goals as goal
use Rattle.gen_moves.proofs.spots.Spot.placed.Goals.{in-Some, in_default}

pub loop-place-preserved : goal.loop-place-preserved
loop-place-preserved c =
    let spot = c.args.self.now in
    let f = new_tile c.args.tiles.now in
    let here : (d : Option Tile) → f c.loop-place.place ≡ get_or c.args.tiles.now c.loop-place.place d = λ d. get_or_default c.args.tiles.now c.loop-place.place None d (omega arith) in
    let before = c.loop-place.placed.items in
    elim c.match-tiles-place.branch [
      | in-Some w ↦ (let p : Placed = record { square = w.on_line-square.result; tile = w.in-Some.tile } in
          let items = ap (λ (v : ArrayVec Placed). v.items) w.placed-is ∙ w.push.ensures.items in
          let size = ap (λ (ps : List Placed). length ps) items ∙ length_push before p in
          record {
            few = omega arith;
            passed = items ∙ put_some spot.dir spot.line f c.loop-place.place before p c.loop-place.invariant.passed (here _ ∙ w.in-Some.is) w.on_line-square.ensures;
          })
      | in_default w ↦ (let items = ap (λ (v : ArrayVec Placed). v.items) w.placed-is in
          let size = ap (λ (ps : List Placed). length ps) items in
          record {
            few = omega arith;
            passed = items ∙ put_none spot.dir spot.line f c.loop-place.place before c.loop-place.invariant.passed (here _ ∙ w.in_default.is);
          })
    ]

pub returns : goal.returns
unfolding placement_of
returns c =
    let last : c.loop-place.place ≡ 15 = omega arith in
    c.loop-place.invariant.passed ∙ ap (put_from c.args.self.now.dir c.args.self.now.line (new_tile c.args.tiles.now) 0) last
