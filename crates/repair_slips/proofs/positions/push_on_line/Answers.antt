use Rattle.repair_slips.specs.Positions.{elsewhere}
use Rattle.repair_slips.proofs.Series.{begun, added}
use Rattle.repair_slips.proofs.positions.push_on_line.Goals as goal

pub loop-place-init : goal.loop-place-init
loop-place-init c = begun (elsewhere c.args.dir c.args.at) c.args.slips.now.items

pub loop-place-preserved : goal.loop-place-preserved
loop-place-preserved c =
    added (elsewhere c.args.dir c.args.at) c.loop-place.place c.args.slips.now.items c.loop-place.slips.items c.push_elsewhere.new.slips.items c.loop-place.invariant c.in_ok-push_elsewhere.ensures
