use Rattle.repair_slips.specs.Each.{for_kind}
use Rattle.repair_slips.specs.Misreadings.{misread_tiles}
use Rattle.repair_slips.proofs.Series.{begun, added}
use Rattle.repair_slips.proofs.misreadings.push_exchange.Goals as goal

pub loop-number-init : goal.loop-number-init
loop-number-init c = begun (for_kind (misread_tiles c.args.rack.now c.args.exchanged.now)) c.args.slips.now.items

pub loop-number-preserved : goal.loop-number-preserved
loop-number-preserved c =
    added (for_kind (misread_tiles c.args.rack.now c.args.exchanged.now)) c.loop-number.number c.args.slips.now.items c.loop-number.slips.items c.push_tiles.new.slips.items c.loop-number.invariant c.in_ok-push_tiles.ensures
