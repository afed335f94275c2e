use Rattle.game_notes.proofs.searching.first_by.Given as goal

abbrev pub ghost-first_plays : goal.ghost-first_plays
ghost-first_plays g a = a.list.now
