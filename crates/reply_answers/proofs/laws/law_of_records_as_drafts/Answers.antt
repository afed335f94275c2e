use Rattle.reply_answers.proofs.AsRecords.{explained_as_record}
use Rattle.reply_answers.proofs.laws.law_of_records_as_drafts.Goals as goal

pub returns-clause-one : goal.returns-clause-one
returns-clause-one c = explained_as_record
