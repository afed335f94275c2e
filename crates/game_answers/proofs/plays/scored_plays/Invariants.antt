use Rattle.std.proofs.Common.{take, map}
use Rattle.gen_sinks.specs.Sinks.{seen_pair}
use Rattle.game_answers.specs.Plays.{ArePlaysOn}
use Rattle.game_answers.proofs.plays.scored_plays.Given as goal

abbrev pub invariant-loop-scored : goal.invariant-loop-scored
invariant-loop-scored l = ArePlaysOn l.board (map seen_pair (take l.scored-index l.plays)) l.kept.items
