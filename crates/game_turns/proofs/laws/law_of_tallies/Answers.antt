use Rattle.game_turns.proofs.PlaceLaws.{next_tally}
use Rattle.game_turns.proofs.laws.law_of_tallies.Goals as goal

pub returns : goal.returns
returns c = next_tally c.law_of_undoing.ensures
