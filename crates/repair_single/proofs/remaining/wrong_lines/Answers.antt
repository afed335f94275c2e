use Rattle.std.proofs.Common.{◌≡◌, None, length, arith}
use Rattle.game_corrections.specs.WrongNumbers.{wrong_at}
use Rattle.repair_single.proofs.StayingWrong.{one_more, all_wrong}
use Rattle.repair_single.proofs.remaining.wrong_lines.Goals as goal

pub loop-place-init : goal.loop-place-init
loop-place-init c = record { so_far = c.new-wrong.ensures.items }

pub loop-place-preserved : goal.loop-place-preserved
loop-place-preserved c =
    record {
      so_far = one_more (wrong_at None c.args.sheet.now c.args.right.now) c.loop-place.place c.loop-place.wrong.items c.push_wrong.new.wrong.items c.loop-place.invariant.so_far c.in_ok-push_wrong.ensures;
    }

pub returns : goal.returns
returns c =
    let last : c.loop-place.place ≡ length c.args.sheet.now = omega arith in
    all_wrong c.args.sheet.now c.args.right.now c.loop-place.place c.loop-place.wrong.items c.loop-place.invariant.so_far last c.requires
