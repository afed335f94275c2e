use Rattle.std.proofs.Common.{rules}
use Rattle.engine_stages.proofs.transfers.read_text.Goals as goal

pub returns-in-Err-NoMemory-clause-stopped : goal.returns-in-Err-NoMemory-clause-stopped
returns-in-Err-NoMemory-clause-stopped g c = search rules
