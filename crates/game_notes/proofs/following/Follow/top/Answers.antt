use Rattle.game_notes.proofs.following.Follow.top.Goals as goal

pub returns-clause-top : goal.returns-clause-top
returns-clause-top c = c.best_plays.ensures.first
