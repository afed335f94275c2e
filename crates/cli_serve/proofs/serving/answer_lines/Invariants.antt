use Rattle.lex_check.specs.Pairs.{list_in}
use Rattle.game_known.specs.Known.{AreKnown}
use Rattle.cli_serve.proofs.serving.answer_lines.Given as goal

abbrev pub invariant-loop : goal.invariant-loop
invariant-loop g l = AreKnown l.judges.rules.now (list_in l.judges.pair.now) l.known
