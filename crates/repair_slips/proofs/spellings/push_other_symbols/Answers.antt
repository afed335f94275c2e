use Rattle.repair_slips.specs.Spellings.{slips_at_symbol}
use Rattle.repair_slips.proofs.Series.{begun, added}
use Rattle.repair_slips.proofs.spellings.push_other_symbols.Goals as goal

pub loop-place-init : goal.loop-place-init
loop-place-init c = begun (slips_at_symbol c.args.word.now) c.args.slips.now.items

pub loop-place-preserved : goal.loop-place-preserved
loop-place-preserved c =
    added (slips_at_symbol c.args.word.now) c.loop-place.place c.args.slips.now.items c.loop-place.slips.items c.push_symbol_at.new.slips.items c.loop-place.invariant c.in_ok-push_symbol_at.ensures
