use Rattle.game_turns.proofs.RackLaws.{fit_scored, holds_other}
use Rattle.game_turns.proofs.machine.Machine.add_score.Goals as goal

pub invariant_of-self : goal.invariant_of-self
invariant_of-self c =
    let self = c.args.self.now in
    let event = c.args.event.now in
    record { racks = fit_scored self.sides c.set_total.new.self self.latest event.player event.total self.racks c.set_total.ensures; tiles = holds_other self.board }
