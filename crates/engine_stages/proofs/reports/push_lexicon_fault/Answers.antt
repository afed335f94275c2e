use Rattle.std.proofs.Common.{rules}
use Rattle.engine_stages.proofs.reports.push_lexicon_fault.Goals as goal

pub returns-in-Extra : goal.returns-in-Extra
returns-in-Extra c = search rules
