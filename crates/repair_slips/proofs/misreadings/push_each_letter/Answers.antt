use Rattle.repair_slips.specs.Each.{for_letter}
use Rattle.repair_slips.specs.Misreadings.{misread_letter}
use Rattle.repair_slips.proofs.Series.{begun, added}
use Rattle.repair_slips.proofs.misreadings.push_each_letter.Goals as goal

pub loop-number-init : goal.loop-number-init
loop-number-init c = begun (for_letter (misread_letter c.args.place c.args.tile)) c.args.slips.now.items

pub loop-number-preserved : goal.loop-number-preserved
loop-number-preserved c =
    added (for_letter (misread_letter c.args.place c.args.tile)) c.loop-number.number c.args.slips.now.items c.loop-number.slips.items c.push_letter_at.new.slips.items c.loop-number.invariant c.in_ok-push_letter_at.ensures
