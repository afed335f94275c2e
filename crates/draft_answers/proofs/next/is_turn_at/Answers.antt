use Rattle.std.proofs.Common.{◌+◌, length, refl, sym, ap, ◌∙◌}
use Rattle.std.proofs.lemmas.Option.{slice_get_read}
use Rattle.gcg_read.specs.declared.events.Event.{Event}
use Rattle.game_turns.specs.Tallies.{is_turn, withdraws}
use Rattle.game_turns.proofs.PlaceLaws.{copied_get}
use Rattle.draft_answers.proofs.Movers.{turn_is}
use Rattle.draft_answers.proofs.next.is_turn_at.Goals as goal

pub returns : goal.returns
returns c =
    λ rules list written is.
    let events = c.args.events.now in
    let place = c.args.place in
    let event = c.index-events-place.result in
    turn_is rules events place event c.withdraws.result c.out_at-out.result c.is_turn.result (slice_get_read events (length events) place event refl c.requires.within c.index-events-place.is)
    (c.withdraws.ensures ∙ ap withdraws (copied_get events (place + 1) c.get.result c.get.ensures.lookup.0 c.get.ensures.lookup.1)) (c.out_at-out.ensures rules list written events is)
    (c.is_turn.ensures ∙ ap (λ (e : Event). is_turn c.withdraws.result c.out_at-out.result e.kind) (sym c.index-events-place.is))
