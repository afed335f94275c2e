use Rattle.std.proofs.Common.{ap, ◌∙◌}
use Rattle.game_turns.specs.Unlisted.{unlisted_of}
use Rattle.sheet_scores.proofs.WalkRows.{noted_row}
use Rattle.sheet_scores.proofs.rows.noted_at.Goals as goal

pub returns : goal.returns
returns c =
    λ rules written right is within.
    noted_row rules c.args.list.now written right c.args.walk.now c.args.place c.in-Some.row.now c.in_ok-unlisted.unlisted.items is c.in-Some.ensures
    (c.in_ok-unlisted.ensures ∙ ap (unlisted_of c.args.list.now) c.standing_words.ensures)
