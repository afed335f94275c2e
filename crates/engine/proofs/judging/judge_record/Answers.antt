use Rattle.std.proofs.Common.{rules}
use Rattle.engine.proofs.Settled.{judged_refused}
use Rattle.engine.proofs.judging.judge_record.Goals as goal

pub returns-in-Err : goal.returns-in-Err
returns-in-Err c = search (judged_refused, rules)
