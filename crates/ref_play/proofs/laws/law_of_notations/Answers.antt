use Rattle.ref_play.proofs.Directing.{written_along}
use Rattle.ref_play.proofs.Naming.{notation_names}
use Rattle.ref_play.proofs.laws.law_of_notations.Goals as goal

pub returns-clause-along : goal.returns-clause-along
returns-clause-along c = written_along

pub returns-clause-read_back : goal.returns-clause-read_back
returns-clause-read_back c = notation_names
