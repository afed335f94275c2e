use Rattle.repair_plays.proofs.searching.plays_by_list.Given as goal

abbrev pub ghost-plays_by_words : goal.ghost-plays_by_words
ghost-plays_by_words g a = a.list.now
