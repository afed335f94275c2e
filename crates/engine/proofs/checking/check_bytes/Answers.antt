use Rattle.std.proofs.Common.{rules}
use Rattle.engine.proofs.checking.check_bytes.Goals as goal

pub returns-in-Err : goal.returns-in-Err
returns-in-Err c = search rules
