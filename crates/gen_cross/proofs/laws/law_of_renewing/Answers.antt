use Rattle.gen_cross.proofs.OneCross.{right_are_same, kept_are_same}
use Rattle.gen_cross.proofs.laws.law_of_renewing.Goals as goal

pub returns-clause-one : goal.returns-clause-one
returns-clause-one c = right_are_same

pub returns-clause-kept : goal.returns-clause-kept
returns-clause-kept c = kept_are_same
