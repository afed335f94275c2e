use Rattle.std.proofs.Common.{rules}
use Rattle.gcg_write.specs.Fields.{kind_text}
use Rattle.gcg_write.proofs.lines.push_kind.Goals as goal

pub returns-in-Exchange-clause-done : goal.returns-in-Exchange-clause-done
unfolding kind_text
returns-in-Exchange-clause-done c = search rules
