use Rattle.game_turns.specs.Machines.{state_of}
use Rattle.explain_facts.proofs.FaultFactLaws.{time_before}
use Rattle.explain_facts.proofs.totals.second_time.Goals as goal

pub returns-in_err-line-clause-named : goal.returns-in_err-line-clause-named
returns-in_err-line-clause-named c = λ adds.
    let scene = c.args.scene.now in
    absurd (time_before scene.rules.now (state_of scene.machine.now) scene.event.now scene.past.now scene.event.now.player adds.0 c.requires (c.time_line.ensures.none c.in_err-line.was))
