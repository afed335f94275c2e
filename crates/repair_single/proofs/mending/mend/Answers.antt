use Rattle.game_corrections.proofs.Mends.{mended_through}
use Rattle.repair_single.proofs.mending.mend.Goals as goal

pub returns-clause-mended : goal.returns-clause-mended
returns-clause-mended c =
    mended_through c.args.events.now c.foresee_total.new.events c.mend.new.events c.args.place c.foresee_total.ensures c.mend.ensures.mended
