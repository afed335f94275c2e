use Rattle.std.proofs.Common.{sym, ◌∙◌}
use Rattle.game_turns.specs.Machines.{state_of}
use Rattle.explain_facts.proofs.FaultFactLaws.{own_play_before}
use Rattle.explain_facts.proofs.challenges.others_play.Goals as goal

pub returns-then-same_seat-clause-named : goal.returns-then-same_seat-clause-named
returns-then-same_seat-clause-named c = λ adds.
    absurd (own_play_before c.args.scene.now.rules.now c.args.scene.now.list.now (state_of c.args.scene.now.machine.now) c.args.scene.now.event.now c.args.scene.now.past.now c.args.play.now c.requires.fails adds.0 c.requires.before (sym c.same_seat.ensures ∙ c.if-same_seat.true))
