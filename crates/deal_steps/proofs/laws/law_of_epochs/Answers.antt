use Rattle.deal_steps.proofs.EpochLaws.{gone_is_sum, low_is_most, low_is_reached}
use Rattle.deal_steps.proofs.laws.law_of_epochs.Goals as goal

pub returns-clause-gone : goal.returns-clause-gone
returns-clause-gone c = gone_is_sum

pub returns-clause-most : goal.returns-clause-most
returns-clause-most c = low_is_most

pub returns-clause-reached : goal.returns-clause-reached
returns-clause-reached c = low_is_reached
