use Rattle.std.proofs.Common.{rules}
use Rattle.ref_play.proofs.texts.along.Goals as goal

pub returns : goal.returns
returns c = search rules
