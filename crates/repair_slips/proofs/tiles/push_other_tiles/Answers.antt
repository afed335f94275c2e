use Rattle.repair_slips.specs.Each.{for_kind}
use Rattle.repair_slips.specs.Tiles.{other_for}
use Rattle.repair_slips.proofs.Series.{begun, added}
use Rattle.repair_slips.proofs.tiles.push_other_tiles.Goals as goal

pub loop-number-init : goal.loop-number-init
loop-number-init c = begun (for_kind (other_for c.args.of c.args.counts.now)) c.args.slips.now.items

pub loop-number-preserved : goal.loop-number-preserved
loop-number-preserved c =
    added (for_kind (other_for c.args.of c.args.counts.now)) c.loop-number.number c.args.slips.now.items c.loop-number.slips.items c.push_other_for.new.slips.items c.loop-number.invariant c.in_ok-push_other_for.ensures
