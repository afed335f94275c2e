use Rattle.std.proofs.Common.{sym, ◌∙◌}
use Rattle.game_turns.specs.Machines.{state_of}
use Rattle.explain_facts.proofs.FaultFactLaws.{takes_back}
use Rattle.explain_facts.proofs.challenges.nothing_to_withdraw.Goals as goal

pub returns-then-not-is_withdrawal-clause-named : goal.returns-then-not-is_withdrawal-clause-named
returns-then-not-is_withdrawal-clause-named c = λ adds.
    let scene = c.args.scene.now in
    absurd (takes_back scene.rules.now scene.list.now (state_of scene.machine.now) scene.event.now scene.past.now c.requires.fails adds.0 (sym c.is_withdrawal.ensures ∙ c.if-not-is_withdrawal.true))
