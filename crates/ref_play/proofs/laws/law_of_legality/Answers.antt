use Rattle.ref_play.proofs.LegalLaws.{no_fault-legal}
use Rattle.ref_play.proofs.laws.law_of_legality.Goals as goal

pub returns : goal.returns
returns c = no_fault-legal
