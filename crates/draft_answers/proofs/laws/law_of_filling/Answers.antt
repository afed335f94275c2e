use Rattle.draft_answers.proofs.Whole.{finds_what_audit_finds}
use Rattle.draft_answers.proofs.laws.law_of_filling.Goals as goal

pub returns : goal.returns
returns c = finds_what_audit_finds
