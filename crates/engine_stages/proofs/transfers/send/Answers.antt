use Rattle.std.proofs.Common.{rules}
use Rattle.engine_stages.proofs.transfers.send.Goals as goal

pub returns-in-Ok-clause-sent : goal.returns-in-Ok-clause-sent
returns-in-Ok-clause-sent g c = search rules

pub returns-in-Err-clause-front : goal.returns-in-Err-clause-front
returns-in-Err-clause-front g c = search rules
