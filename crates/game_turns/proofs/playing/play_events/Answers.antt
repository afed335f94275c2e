use Rattle.std.proofs.Common.{◌≡◌, length, refl, sym, ap, ◌∙◌, arith, Some, None}
use Rattle.std.specs.Option.{option_copied}
use Rattle.std.proofs.lemmas.Option.{slice_get_read}
use Rattle.game_turns.specs.Machines.{state_of}
use Rattle.game_turns.specs.Places.{fault_at}
use Rattle.game_turns.proofs.PlaceLaws.{start_tally, allowed_more, fault_reported, state_remaining}
use Rattle.game_turns.proofs.playing.play_events.Goals as goal

pub loop-place-init : goal.loop-place-init
loop-place-init c =
    record { rules = c.new-machine.ensures.rules; state = c.new-machine.ensures.state ∙ start_tally c.args.rules.now c.args.events.now; allowed = λ place below. absurd (omega arith) }

pub returns-in-Err-clause-refused : goal.returns-in-Err-clause-refused
returns-in-Err-clause-refused c =
    let events = c.args.events.now in
    let place = c.loop-place.place in
    let event = c.index-events-place.result in
    record {
      first = record {
        place = place;
        event = event;
        stands = slice_get_read events (length events) place event refl (omega arith) c.index-events-place.is;
        on_line = sym c.refusal_of.ensures.line;
        fails =
            fault_reported c.args.rules.now c.args.list.now events place event c.loop-place.machine (Some c.in-Err.fault) (omega arith) c.index-events-place.is
            c.loop-place.invariant.rules c.loop-place.invariant.state c.in-Err.ensures.reported
            ∙ sym (ap Some c.refusal_of.ensures.fault);
        earlier = c.loop-place.invariant.allowed;
      };
      before = c.loop-place-test.true;
    }

pub loop-place-preserved : goal.loop-place-preserved
loop-place-preserved c =
    let rules = c.args.rules.now in
    let list = c.args.list.now in
    let events = c.args.events.now in
    let place = c.loop-place.place in
    let event = c.index-events-place.result in
    let machine = c.loop-place.machine in
    let here : fault_at rules list events place ≡ None = fault_reported rules list events place event machine None (omega arith) c.index-events-place.is
    c.loop-place.invariant.rules c.loop-place.invariant.state c.in_default.ensures.reported in
    let allowed = allowed_more rules list events place c.loop-place.invariant.allowed here in
    record {
      rules = c.in_default.ensures.rules ∙ c.loop-place.invariant.rules;
      state = state_remaining c.law_of_tallies.ensures rules list events place event machine (state_of c.step.new.self) (option_copied c.event_after.result) (omega arith) c.index-events-place.is
          c.loop-place.invariant.rules c.loop-place.invariant.state c.event_after.ensures allowed c.in_default.ensures.state;
      allowed = allowed;
    }
