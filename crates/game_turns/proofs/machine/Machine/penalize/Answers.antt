use Rattle.std.proofs.Common.{refl}
use Rattle.game_turns.proofs.RackLaws.{fit_flagged}
use Rattle.game_turns.proofs.machine.Machine.penalize.Goals as goal

pub invariant_of-self : goal.invariant_of-self
invariant_of-self c =
    let scored = c.add_score.new.self in
    record { racks = fit_flagged scored.sides c.set_timed.new.self scored.latest c.args.event.now.player _ scored.racks refl c.set_timed.ensures; tiles = scored.tiles }
