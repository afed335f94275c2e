use Rattle.std.proofs.Common.{rules}
use Rattle.engine_stages.proofs.reports.fault_text.Goals as goal

pub returns : goal.returns
returns c = search rules
