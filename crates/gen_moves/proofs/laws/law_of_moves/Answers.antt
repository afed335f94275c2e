use Rattle.gen_moves.proofs.Gathering.{moves_are_candidates, candidate_on, given_all}
use Rattle.gen_moves.proofs.laws.law_of_moves.Goals as goal

pub returns : goal.returns
returns c = record { moves = moves_are_candidates; candidates = candidate_on; all = given_all }
