use Rattle.std.proofs.Common.{rules}
use Rattle.game_report.specs.EventLines.{unlisted_text}
use Rattle.game_report.proofs.event_lines.push_unlisted.Goals as goal

pub returns-then-all_listed : goal.returns-then-all_listed
unfolding unlisted_text
returns-then-all_listed c = search rules
