use Rattle.repair_slips.specs.Each.{for_next}
use Rattle.repair_slips.specs.MissingLines.{missing_bonus}
use Rattle.repair_slips.proofs.Series.{begun, added}
use Rattle.repair_slips.proofs.missing.push_bonuses.Goals as goal

pub loop-words-init : goal.loop-words-init
loop-words-init c = begun (for_next (missing_bonus c.args.rules.now c.args.player)) c.args.slips.now.items

pub loop-words-preserved : goal.loop-words-preserved
loop-words-preserved c =
    added (for_next (missing_bonus c.args.rules.now c.args.player)) c.loop-words.words c.args.slips.now.items c.loop-words.slips.items c.push_bonus.new.slips.items c.loop-words.invariant c.in_ok-push_bonus.ensures
