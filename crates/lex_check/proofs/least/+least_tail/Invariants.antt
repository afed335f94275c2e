use Rattle.lex_check.proofs.least.+least_tail.Given as goal

abbrev pub decreases-least_tail : goal.decreases-least_tail
decreases-least_tail g l = g.L.PathLex.height l.lexicon.now l.node
