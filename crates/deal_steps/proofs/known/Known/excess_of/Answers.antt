use Rattle.std.proofs.Common.{rules}
use Rattle.deal_steps.specs.Knowing.{excess_of}
use Rattle.deal_steps.proofs.known.Known.excess_of.Goals as goal

pub returns-then-total-size_of : goal.returns-then-total-size_of
unfolding excess_of
returns-then-total-size_of c = search rules
