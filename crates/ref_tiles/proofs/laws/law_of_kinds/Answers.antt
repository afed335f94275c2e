use Rattle.ref_tiles.proofs.KindLemmas.{read_again, written_again}
use Rattle.ref_tiles.proofs.laws.law_of_kinds.Goals as goal

pub returns-clause-read_again : goal.returns-clause-read_again
returns-clause-read_again c = read_again

pub returns-clause-written_again : goal.returns-clause-written_again
returns-clause-written_again c = written_again
