use Rattle.ref_play.proofs.Taking.{without-with}
use Rattle.ref_play.proofs.laws.law_of_undoing.Goals as goal

pub returns : goal.returns
returns c = without-with
