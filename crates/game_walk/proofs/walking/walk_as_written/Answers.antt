use Rattle.std.proofs.Common.{map, ap, ◌∙◌}
use Rattle.game_walk.specs.Numbers.{numbers_in, renumbered}
use Rattle.game_walk.proofs.Renumbering.{back_again}
use Rattle.game_walk.proofs.Steps.{walk_renumbered}
use Rattle.game_walk.proofs.walking.walk_as_written.Goals as goal

pub returns-clause-same : goal.returns-clause-same
returns-clause-same c =
    let written = c.args.events.now in
    let right = c.walk_and_correct.new.events in
    c.renumber.ensures
    ∙ ap (renumbered right) (c.as_slice-2.ensures.value ∙ c.in_ok-written.ensures ∙ ap (map numbers_in) c.as_slice.ensures)
    ∙ back_again written right (walk_renumbered c.args.rules.now c.args.list.now written right c.in_ok-walk.walk c.in_ok-walk.ensures.walk)
