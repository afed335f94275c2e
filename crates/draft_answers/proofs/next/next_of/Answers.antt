use Rattle.std.proofs.Common.{List, length, ap, ◌∙◌}
use Rattle.game_turns.specs.Machines.{state_of}
use Rattle.game_turns.specs.Tallies.{tally_at}
use Rattle.game_walk.specs.declared.rows.Row.{Row}
use Rattle.draft_answers.proofs.Movers.{next_by}
use Rattle.draft_answers.proofs.next.next_of.Goals as goal

pub returns : goal.returns
returns c =
    λ rules list written is.
    let events = c.args.events.now in
    next_by (tally_at rules events (length c.args.walk.now.rows.items)) (state_of c.end_of-machine.result.now) _ (c.end_of-machine.ensures rules list written events is)
    (c.turn_at.ensures rules list written is ∙ ap (λ (rs : List Row). (tally_at rules events (length rs)).mover) c.as_slice-rows.ensures.value) c.out.ensures c.finished.ensures c.bag_size.ensures c.side_in.ensures
    c.side_in-2.ensures
