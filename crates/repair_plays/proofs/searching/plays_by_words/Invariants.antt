use Rattle.repair_plays.proofs.searching.plays_by_words.Given as goal

abbrev pub ghost-generate : goal.ghost-generate
ghost-generate g a = g.words
