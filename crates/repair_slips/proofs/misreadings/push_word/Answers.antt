use Rattle.repair_slips.specs.Misreadings.{misread_at}
use Rattle.repair_slips.proofs.Series.{begun, added}
use Rattle.repair_slips.proofs.misreadings.push_word.Goals as goal

pub loop-place-init : goal.loop-place-init
loop-place-init c = begun (misread_at c.args.rack.now c.args.word.now) c.args.slips.now.items

pub loop-place-preserved : goal.loop-place-preserved
loop-place-preserved c =
    added (misread_at c.args.rack.now c.args.word.now) c.loop-place.place c.args.slips.now.items c.loop-place.slips.items c.push_at.new.slips.items c.loop-place.invariant c.in_ok-push_at.ensures
