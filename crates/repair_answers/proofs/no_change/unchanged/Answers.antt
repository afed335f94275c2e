use Rattle.std.proofs.Common.{map, ap, ◌∙◌}
use Rattle.game_walk.specs.Numbers.{numbers_in, renumbered}
use Rattle.game_walk.proofs.Renumbering.{back_again}
use Rattle.repair_answers.proofs.Alone.{same_again}
use Rattle.repair_answers.proofs.no_change.unchanged.Goals as goal

pub returns-clause-same : goal.returns-clause-same
returns-clause-same c =
    let written = c.args.game.now.events in
    let right = c.with_right_numbers.new.game.events in
    same_again c.args.game.now c.with_right_numbers.new.game.players c.renumber.new.events c.in_ok-alone.ensures.others.players
    (c.renumber.ensures ∙ ap (renumbered right) (c.as_slice-2.ensures.value ∙ c.in_ok-written.ensures ∙ ap (map numbers_in) c.as_slice.ensures)
    ∙ back_again written right c.in_ok-alone.ensures.others.events)
