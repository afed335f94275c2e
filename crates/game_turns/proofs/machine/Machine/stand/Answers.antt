use Rattle.std.proofs.Common.{rules, ◌≤◌, ◌+◌, ◌-◌, ap, arith}
use Rattle.game_turns.specs.Seats.{side_of}
use Rattle.game_turns.specs.Changes.{after_standing}
use Rattle.game_turns.proofs.RackLaws.{fit_standing, holds_played}
use Rattle.game_turns.proofs.machine.Machine.stand.Goals as goal

pub invariant_of-self : goal.invariant_of-self
invariant_of-self c =
    let self = c.args.self.now in
    let event = c.args.event.now in
    let laid = c.args.laid in
    let rack = c.of.result.now.rack - c.len-used.result + c.min-drawn.result in
    let had = ap (λ side. side.rack) c.of.ensures in
    let less : rack ≤ (side_of self.sides event.player).rack = omega arith in
    record {
      racks = fit_standing self.sides c.set_total.new.self c.set_rack.new.self self.latest event.player event.total rack laid
          self.racks c.set_total.ensures less c.requires.stands c.set_rack.ensures;
      tiles = holds_played c.apply.new.board laid c.apply.ensures.there;
    }

pub returns : goal.returns
unfolding after_standing
returns c = search rules
