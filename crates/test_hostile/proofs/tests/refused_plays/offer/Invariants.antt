use Rattle.test_hostile.proofs.tests.refused_plays.offer.Given as goal

abbrev pub ghost-generate : goal.ghost-generate
ghost-generate g a = g.words
