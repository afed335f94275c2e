use Rattle.gen_sinks.proofs.RankOrder.{added_are_first, order_no_matter, firsts_are_one, first_is_best}
use Rattle.gen_sinks.proofs.laws.law_of_first.Goals as goal

pub returns : goal.returns
returns c = record { first = added_are_first; order = order_no_matter; one = firsts_are_one; best = first_is_best }
