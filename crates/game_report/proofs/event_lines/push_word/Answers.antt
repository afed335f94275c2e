use Rattle.std.proofs.Common.{rules}
use Rattle.game_report.proofs.event_lines.push_word.Goals as goal

pub returns-then-has : goal.returns-then-has
returns-then-has c = search rules
