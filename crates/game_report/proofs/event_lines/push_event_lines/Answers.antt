use Rattle.std.proofs.Common.{rules}
use Rattle.game_report.proofs.event_lines.push_event_lines.Goals as goal

pub returns-in_err-push_lines-clause-refused : goal.returns-in_err-push_lines-clause-refused
returns-in_err-push_lines-clause-refused c = search rules
