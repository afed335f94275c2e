use Rattle.std.proofs.Common.{◌≡◌, ◌≤◌, ◌-◌, length, ap, arith}
use Rattle.game_turns.specs.Seats.{side_of}
use Rattle.game_turns.proofs.RackLaws.{fit_waiting, holds_played}
use Rattle.game_turns.proofs.machine.Machine.wait.Goals as goal

pub invariant_of-self : goal.invariant_of-self
invariant_of-self c =
    let self = c.args.self.now in
    let event = c.args.event.now in
    let laid = c.args.laid in
    let n = length laid.play.tiles.items in
    let had = ap (λ side. side.rack) c.of.ensures in
    let few : n ≤ (side_of self.sides event.player).rack = omega arith in
    let remaining : c.of.result.now.rack - c.len.result ≡ (side_of self.sides event.player).rack - n = omega arith in
    record {
      racks = fit_waiting self.sides c.set_total.new.self c.set_rack.new.self self.latest event.player event.total (c.of.result.now.rack - c.len.result) laid
          self.racks c.set_total.ensures few remaining c.requires.player c.set_rack.ensures;
      tiles = holds_played c.apply.new.board laid c.apply.ensures.there;
    }
