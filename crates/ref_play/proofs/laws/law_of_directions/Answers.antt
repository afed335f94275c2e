use Rattle.ref_play.proofs.DirectionLaws.{one_tile-play, one_tile-fault, words-both, more_tiles}
use Rattle.ref_play.proofs.laws.law_of_directions.Goals as goal

pub returns-clause-one_tile : goal.returns-clause-one_tile
returns-clause-one_tile c = one_tile-play

pub returns-clause-same_fault : goal.returns-clause-same_fault
returns-clause-same_fault c = one_tile-fault

pub returns-clause-same_words : goal.returns-clause-same_words
returns-clause-same_words c = words-both

pub returns-clause-more_tiles : goal.returns-clause-more_tiles
returns-clause-more_tiles c = more_tiles
