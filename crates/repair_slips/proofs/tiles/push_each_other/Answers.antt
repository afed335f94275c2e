use Rattle.repair_slips.specs.Each.{for_kind}
use Rattle.repair_slips.specs.Tiles.{other_tile}
use Rattle.repair_slips.proofs.Series.{begun, added}
use Rattle.repair_slips.proofs.tiles.push_each_other.Goals as goal

pub loop-number-init : goal.loop-number-init
loop-number-init c = begun (for_kind (other_tile c.args.of c.args.tile)) c.args.slips.now.items

pub loop-number-preserved : goal.loop-number-preserved
loop-number-preserved c =
    added (for_kind (other_tile c.args.of c.args.tile)) c.loop-number.number c.args.slips.now.items c.loop-number.slips.items c.push_other_tile.new.slips.items c.loop-number.invariant c.in_ok-push_other_tile.ensures
