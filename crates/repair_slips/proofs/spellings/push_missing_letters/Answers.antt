use Rattle.repair_slips.specs.Each.{for_letter}
use Rattle.repair_slips.specs.Spellings.{missing_letter}
use Rattle.repair_slips.proofs.Series.{begun, added}
use Rattle.repair_slips.proofs.spellings.push_missing_letters.Goals as goal

pub loop-number-init : goal.loop-number-init
loop-number-init c = begun (for_letter (missing_letter c.args.place)) c.args.slips.now.items

pub loop-number-preserved : goal.loop-number-preserved
loop-number-preserved c =
    added (for_letter (missing_letter c.args.place)) c.loop-number.number c.args.slips.now.items c.loop-number.slips.items c.push_missing_letter.new.slips.items c.loop-number.invariant c.in_ok-push_missing_letter.ensures
