use Rattle.repair_plays.proofs.Pushed.{none}
use Rattle.repair_plays.proofs.finding.plays_for.Goals as goal

pub loop-place-init : goal.loop-place-init
loop-place-init c = none c.args.events.now c.args.walk.now _ c.new-changes.ensures.items
