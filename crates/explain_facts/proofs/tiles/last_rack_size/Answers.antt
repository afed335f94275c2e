use Rattle.game_turns.specs.Machines.{state_of}
use Rattle.explain_facts.proofs.FaultFactLaws.{size_of_last_rack, no_last_rack}
use Rattle.explain_facts.proofs.tiles.last_rack_size.Goals as goal

pub returns-in_default-clause-named : goal.returns-in_default-clause-named
returns-in_default-clause-named c = absurd (no_last_rack c.args.scene.now.event.now.kind c.in_default.not-LastRack (size_of_last_rack c.args.scene.now.rules.now c.args.scene.now.list.now (state_of c.args.scene.now.machine.now) c.args.scene.now.event.now c.requires.fails))
