use Rattle.lex_file.proofs.NodeLaws.{holds_arc, targets}
use Rattle.lex_file.proofs.laws.law_of_nodes.Goals as goal

pub returns-clause-own : goal.returns-clause-own
returns-clause-own c = holds_arc

pub returns-clause-targets : goal.returns-clause-targets
returns-clause-targets c = targets
