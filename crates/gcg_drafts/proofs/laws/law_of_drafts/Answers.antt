use Rattle.gcg_drafts.proofs.Own.{own_draft}
use Rattle.gcg_drafts.proofs.laws.law_of_drafts.Goals as goal

pub returns-clause-own : goal.returns-clause-own
returns-clause-own c = own_draft
