use Rattle.test_moves.proofs.tests.generating.plays_by.Given as goal

abbrev pub ghost-plays_of : goal.ghost-plays_of
ghost-plays_of g a = a.list.now
