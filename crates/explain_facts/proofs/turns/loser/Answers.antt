use Rattle.std.proofs.Common.{◌≡◌, true, sym, ◌∙◌, subst}
use Rattle.gcg_read.specs.declared.events.Seat.{Seat}
use Rattle.game_turns.specs.Machines.{state_of}
use Rattle.game_turns.specs.Seats.{side_of}
use Rattle.explain_facts.proofs.FaultFactLaws.{turns_over, other_ended}
use Rattle.explain_facts.proofs.turns.loser.Goals as goal

pub returns : goal.returns
returns c =
    let s = state_of c.args.scene.now.machine.now in
    let player = c.args.scene.now.event.now.player in
    subst (λ (seat : Seat). (side_of s.sides seat).ended ≡ true) (sym c.other.ensures)
    (other_ended s player (turns_over c.args.scene.now.rules.now c.args.scene.now.list.now (state_of c.args.scene.now.machine.now) c.args.scene.now.event.now c.requires.fails) c.requires.running c.requires.none (sym c.has_ended.ensures ∙ c.if-has_ended.false))
