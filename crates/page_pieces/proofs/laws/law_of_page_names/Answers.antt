use Rattle.page_pieces.proofs.Apart.{apart, no_index}
use Rattle.page_pieces.proofs.Inside.{inside}
use Rattle.page_pieces.proofs.laws.law_of_page_names.Goals as goal

pub returns-clause-apart : goal.returns-clause-apart
returns-clause-apart c = apart

pub returns-clause-no_index : goal.returns-clause-no_index
returns-clause-no_index c = no_index

pub returns-clause-inside : goal.returns-clause-inside
returns-clause-inside c = inside
