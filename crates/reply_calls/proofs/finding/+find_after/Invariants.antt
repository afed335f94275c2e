use Rattle.std.proofs.Common.{length}
use Rattle.reply_calls.proofs.finding.+find_after.Given as goal

abbrev pub decreases-find_after : goal.decreases-find_after
decreases-find_after g l = length l.sheets.now
