use Rattle.std.proofs.Common.{rules, ◌≤◌, ◌+◌, ap, sym, subst, arith}
use Rattle.game_turns.specs.Changes.{after_withdraw}
use Rattle.game_turns.specs.LatestEvents.{FitRacks, IsAwaited}
use Rattle.game_turns.proofs.RackLaws.{fit_scored, room_for, fit_taken, holds_taken}
use Rattle.game_turns.proofs.machine.Machine.take_back.Goals as goal

pub invariant_of-self-2 : goal.invariant_of-self-2
invariant_of-self-2 c =
    let self = c.args.self.now in
    let event = c.args.event.now in
    let laid = c.in-Played.laid in
    let awaits = subst (λ latest. IsAwaited latest event.player) (sym c.in-Played.ensures.value) c.requires.awaits in
    let fit = subst (λ latest. FitRacks self.sides latest) (sym c.in-Played.ensures.value) self.racks in
    let room = room_for self.sides laid event.player fit awaits.0 awaits.1 in
    let scored = fit_scored self.sides c.set_total.new.self self.latest event.player event.total self.racks c.set_total.ensures in
    let rack = c.of.result.now.rack + c.len.result in
    let had = ap (λ side. side.rack) c.of.ensures in
    let few : rack ≤ 7 = omega arith in
    record {
      racks = fit_taken c.set_total.new.self c.set_rack.new.self event.player rack laid.play scored few c.set_rack.ensures;
      tiles = holds_taken _ laid.play;
    }

pub returns : goal.returns
unfolding after_withdraw
returns c = search rules
