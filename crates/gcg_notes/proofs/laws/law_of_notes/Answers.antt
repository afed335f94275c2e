use Rattle.gcg_notes.proofs.Texts.{read_with_notes, only_noted}
use Rattle.gcg_notes.proofs.laws.law_of_notes.Goals as goal

pub returns-clause-reads : goal.returns-clause-reads
returns-clause-reads c = read_with_notes

pub returns-clause-rest : goal.returns-clause-rest
returns-clause-rest c = only_noted
