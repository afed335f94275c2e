use Rattle.test_hostile.proofs.tests.refused_plays.offer_by.Given as goal

abbrev pub ghost-offer : goal.ghost-offer
ghost-offer g a = a.list.now
