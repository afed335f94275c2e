use Rattle.lex_check.proofs.Agreements.{exact}
use Rattle.lex_check.proofs.laws.law_of_lexicons.Goals as goal

pub returns : goal.returns
returns c = exact c.law_of_language.ensures.language c.law_of_lists.ensures.meaning c.law_of_lists.ensures.capitals c.law_of_paths.ensures.standing
