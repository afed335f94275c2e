use Rattle.std.proofs.Common.{refl}
use Rattle.game_turns.proofs.RackLaws.{fit_flagged}
use Rattle.game_turns.proofs.machine.Machine.end.Goals as goal

pub invariant_of-self-2 : goal.invariant_of-self-2
invariant_of-self-2 c =
    let scored = c.add_score.new.self in
    record { racks = fit_flagged scored.sides c.set_ended.new.self scored.latest c.args.event.now.player _ scored.racks refl c.set_ended.ensures; tiles = scored.tiles }
