use Rattle.lex_list.proofs.RotatedPaths.{tested, standing}
use Rattle.lex_list.proofs.laws.law_of_paths.Goals as goal

pub returns-clause-tested : goal.returns-clause-tested
returns-clause-tested c = tested

pub returns-clause-standing : goal.returns-clause-standing
returns-clause-standing c = standing
