use Rattle.std.proofs.Common.{rules}
use Rattle.deal_completion.specs.Completion.{chosen}
use Rattle.deal_completion.proofs.drawing.chosen.Goals as goal

pub returns : goal.returns
unfolding chosen
returns c = search rules
