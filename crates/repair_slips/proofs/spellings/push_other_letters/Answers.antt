use Rattle.repair_slips.specs.Each.{for_letter}
use Rattle.repair_slips.specs.Spellings.{other_letter}
use Rattle.repair_slips.proofs.Series.{begun, added}
use Rattle.repair_slips.proofs.spellings.push_other_letters.Goals as goal

pub loop-number-init : goal.loop-number-init
loop-number-init c = begun (for_letter (other_letter c.args.place c.args.written)) c.args.slips.now.items

pub loop-number-preserved : goal.loop-number-preserved
loop-number-preserved c =
    added (for_letter (other_letter c.args.place c.args.written)) c.loop-number.number c.args.slips.now.items c.loop-number.slips.items c.push_other_letter.new.slips.items c.loop-number.invariant c.in_ok-push_other_letter.ensures
