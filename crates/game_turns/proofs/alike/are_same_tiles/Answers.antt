use Rattle.std.proofs.Common.{◌≡◌, ◌<◌, length, refl, arith}
use Rattle.game_turns.proofs.SameLists.{same_more, same_all}
use Rattle.game_turns.proofs.alike.are_same_tiles.Goals as goal

pub loop-place-init : goal.loop-place-init
loop-place-init c = refl

pub loop-place-preserved : goal.loop-place-preserved
loop-place-preserved c =
    let within : c.loop-place.place < length c.args.others.now = omega arith in
    same_more c.args.tiles.now c.args.others.now c.loop-place.place c.index-tiles-place.result c.index-others-place.result c.loop-place-test.true within c.index-tiles-place.is c.index-others-place.is
    (c.is_same_tile.ensures.0 c.if-not-is_same_tile.false) c.loop-place.invariant

pub returns : goal.returns
returns c =
    let all = c.loop-place-test.false in
    let long : length c.args.tiles.now ≡ length c.args.others.now = omega arith in
    (λ yes_it. same_all c.args.tiles.now c.args.others.now c.loop-place.place long (omega (arith, all)) c.loop-place.invariant, λ same. refl)
