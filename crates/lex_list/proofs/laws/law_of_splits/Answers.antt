use Rattle.lex_list.proofs.Splitting.{split}
use Rattle.lex_list.proofs.laws.law_of_splits.Goals as goal

pub returns : goal.returns
returns c = split
