use Rattle.repair_slips.specs.Each.{for_next}
use Rattle.repair_slips.specs.Amounts.{exchange_of}
use Rattle.repair_slips.proofs.Series.{begun, added}
use Rattle.repair_slips.proofs.amounts.push_exchanges.Goals as goal

pub loop-tiles-init : goal.loop-tiles-init
loop-tiles-init c = begun (for_next exchange_of) c.args.slips.now.items

pub loop-tiles-preserved : goal.loop-tiles-preserved
loop-tiles-preserved c =
    added (for_next exchange_of) c.loop-tiles.tiles c.args.slips.now.items c.loop-tiles.slips.items c.add.new.slips.items c.loop-tiles.invariant c.in_ok-add.ensures
