use Rattle.gcg_write.proofs.RoundTrips.{read_again}
use Rattle.gcg_write.proofs.laws.law_of_round_trip.Goals as goal

pub returns : goal.returns
returns c = read_again
