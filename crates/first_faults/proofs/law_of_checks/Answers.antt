use Rattle.first_faults.proofs.CheckLaws.{nowhere, first}
use Rattle.first_faults.proofs.law_of_checks.Goals as goal

pub returns-clause-none : goal.returns-clause-none
returns-clause-none g c = nowhere

pub returns-clause-first : goal.returns-clause-first
returns-clause-first g c = first
