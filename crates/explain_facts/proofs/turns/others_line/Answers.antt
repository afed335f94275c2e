use Rattle.std.proofs.Common.{sym, ◌∙◌}
use Rattle.game_turns.specs.Machines.{state_of}
use Rattle.explain_facts.proofs.FaultFactLaws.{turn_due}
use Rattle.explain_facts.proofs.turns.others_line.Goals as goal

pub returns-in_err-out-clause-named : goal.returns-in_err-out-clause-named
returns-in_err-out-clause-named c = absurd (turn_due c.args.scene.now.rules.now c.args.scene.now.list.now (state_of c.args.scene.now.machine.now) c.args.scene.now.event.now c.requires.fails c.requires.rack (sym c.out.ensures ∙ c.in_err-out.was))
