use Rattle.gen_cross.proofs.CrossLaws.{mask_of_tile, score_of_tile}
use Rattle.gen_cross.proofs.laws.law_of_crosses.Goals as goal

pub returns-clause-words : goal.returns-clause-words
returns-clause-words c = mask_of_tile

pub returns-clause-score : goal.returns-clause-score
returns-clause-score c = score_of_tile
