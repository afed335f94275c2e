use Rattle.std.proofs.Common.{rules}
use Rattle.game_deal.specs.Recorded.{step_in}
use Rattle.game_deal.proofs.recording.next_step.Goals as goal

pub returns : goal.returns
unfolding step_in
returns c = search rules
