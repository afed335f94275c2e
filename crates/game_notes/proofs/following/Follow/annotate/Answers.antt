use Rattle.game_notes.proofs.following.Follow.annotate.Goals as goal

pub returns : goal.returns
returns c = c.annotate.ensures.annotation
