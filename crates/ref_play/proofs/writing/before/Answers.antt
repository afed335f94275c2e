use Rattle.std.proofs.Common.{rules}
use Rattle.ref_play.proofs.Ordering.{before_is}
use Rattle.ref_play.proofs.writing.before.Goals as goal

pub returns : goal.returns
returns c = search (rules, before_is)
