use Rattle.std.proofs.Common.{rules}
use Rattle.game_deal.proofs.recording.play_motion.Goals as goal

pub returns-then-withdrawn : goal.returns-then-withdrawn
returns-then-withdrawn c = search rules
