use Rattle.game_notes.proofs.searching.first_plays.Given as goal

abbrev pub ghost-generate : goal.ghost-generate
ghost-generate g a = g.words
