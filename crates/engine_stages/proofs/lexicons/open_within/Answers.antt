use Rattle.std.proofs.Common.{rules}
use Rattle.engine_stages.specs.Lexicons.{file_fault}
use Rattle.engine_stages.proofs.lexicons.open_within.Goals as goal

pub returns-clause-form : goal.returns-clause-form
unfolding file_fault
returns-clause-form c = search rules
