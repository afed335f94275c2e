use Rattle.engine.proofs.ConvertedFiles.{stays_lexicon}
use Rattle.engine.proofs.laws.law_of_conversions.Goals as goal

pub returns : goal.returns
returns c = stays_lexicon
