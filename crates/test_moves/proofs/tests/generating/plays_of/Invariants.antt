use Rattle.test_moves.proofs.tests.generating.plays_of.Given as goal

abbrev pub ghost-generate : goal.ghost-generate
ghost-generate g a = g.words

abbrev pub ghost-generate-2 : goal.ghost-generate-2
ghost-generate-2 g a = g.words
