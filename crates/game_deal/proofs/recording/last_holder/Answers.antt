use Rattle.std.proofs.Common.{rules}
use Rattle.game_deal.proofs.recording.last_holder.Goals as goal

pub returns-in-Some : goal.returns-in-Some
returns-in-Some c = search rules
