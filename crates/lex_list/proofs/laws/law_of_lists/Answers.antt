use Rattle.lex_list.proofs.Meanings.{meaning_is}
use Rattle.lex_list.proofs.RotatedPaths.{list_capitals}
use Rattle.lex_list.proofs.laws.law_of_lists.Goals as goal

pub returns-clause-meaning : goal.returns-clause-meaning
returns-clause-meaning c = meaning_is

pub returns-clause-capitals : goal.returns-clause-capitals
returns-clause-capitals c = list_capitals
