use Rattle.game_report.proofs.BesideLaws.{start_together}
use Rattle.game_report.proofs.top_plays.follow_all.Goals as goal

pub loop-place-init : goal.loop-place-init
loop-place-init c =
    record { stand = start_together _ _ _ _ _ _ _ c.rules.ensures c.rules-2.ensures c.new-machine.ensures.rules c.new-machine.ensures.state c.new-follow.ensures.board c.new-follow.ensures.follows }
