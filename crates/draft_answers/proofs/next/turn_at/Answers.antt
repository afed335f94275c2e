use Rattle.std.proofs.Common.{ℕ, ◌-◌, ◌<◌, ◌≤◌, ◌≡◌, length, refl, ap, sym, ◌∙◌, arith}
use Rattle.std.proofs.lemmas.Option.{slice_get_read}
use Rattle.gcg_read.specs.Players.{other_seat}
use Rattle.gcg_read.specs.declared.events.Event.{Event}
use Rattle.game_turns.specs.Tallies.{tally_at}
use Rattle.draft_answers.proofs.Movers.{turn_found, no_turn, no_mover}
use Rattle.draft_answers.proofs.next.turn_at.Goals as goal

pub returns-then-is_turn_at : goal.returns-then-is_turn_at
returns-then-is_turn_at c =
    λ rules list written is.
    let events = c.args.events.now in
    let end = c.loop-end.end in
    let event = c.index-events-end.result in
    let upto = c.loop-end.invariant.0 in
    let inside = c.requires.within in
    let some = c.loop-end-test.true in
    let within : end - 1 < length events = omega (arith, upto, inside, some) in
    turn_found rules events c.args.place end event c.is_turn_at.result c.other.result some (slice_get_read events (length events) (end - 1) event refl within c.index-events-end.is)
    (c.is_turn_at.ensures rules list written is) c.if-is_turn_at.true (c.other.ensures ∙ ap (λ (e : Event). other_seat e.player) (sym c.index-events-end.is)) (c.loop-end.invariant.1 rules list written is)

pub loop-end-preserved : goal.loop-end-preserved
loop-end-preserved c =
    let events = c.args.events.now in
    let end = c.loop-end.end in
    let upto = c.loop-end.invariant.0 in
    let inside = c.requires.within in
    let some = c.loop-end-test.true in
    let within : end - 1 < length events = omega (arith, upto, inside, some) in
    let before : end - 1 ≤ c.args.place = omega (arith, upto) in
    (before, λ rules list written is. no_turn rules events c.args.place end c.is_turn_at.result some within (c.is_turn_at.ensures rules list written is) c.if-is_turn_at.false (c.loop-end.invariant.1 rules list written is))

pub returns : goal.returns
returns c =
    λ rules list written is.
    let events = c.args.events.now in
    let end = c.loop-end.end in
    let past = c.loop-end-test.false in
    let none : end ≡ 0 = omega (arith, past) in
    sym (c.loop-end.invariant.1 rules list written is ∙ ap (λ (n : ℕ). (tally_at rules events n).mover) none ∙ no_mover rules events)
