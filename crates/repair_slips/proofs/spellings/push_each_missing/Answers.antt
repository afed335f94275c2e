use Rattle.repair_slips.specs.Spellings.{missing_symbol}
use Rattle.repair_slips.proofs.Series.{begun, added}
use Rattle.repair_slips.proofs.spellings.push_each_missing.Goals as goal

pub loop-place-init : goal.loop-place-init
loop-place-init c = begun missing_symbol c.args.slips.now.items

pub loop-place-preserved : goal.loop-place-preserved
loop-place-preserved c =
    added missing_symbol c.loop-place.place c.args.slips.now.items c.loop-place.slips.items c.push_missing_symbol.new.slips.items c.loop-place.invariant c.in_ok-push_missing_symbol.ensures
