use Rattle.std.proofs.Common.{rules}
use Rattle.engine.proofs.Toppings.{topped_refused}
use Rattle.engine.proofs.best_plays.top_record.Goals as goal

pub returns-in-Err : goal.returns-in-Err
returns-in-Err c = search (topped_refused, rules)
