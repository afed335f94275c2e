use Rattle.repair_slips.specs.Each.{for_kind}
use Rattle.repair_slips.specs.Tiles.{missing_tile}
use Rattle.repair_slips.proofs.Series.{begun, added}
use Rattle.repair_slips.proofs.tiles.push_each_missing.Goals as goal

pub loop-number-init : goal.loop-number-init
loop-number-init c = begun (for_kind (missing_tile c.args.of)) c.args.slips.now.items

pub loop-number-preserved : goal.loop-number-preserved
loop-number-preserved c =
    added (for_kind (missing_tile c.args.of)) c.loop-number.number c.args.slips.now.items c.loop-number.slips.items c.push_missing_tile.new.slips.items c.loop-number.invariant c.in_ok-push_missing_tile.ensures
