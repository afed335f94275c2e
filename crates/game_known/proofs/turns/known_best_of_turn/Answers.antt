use Rattle.std.proofs.lemmas.Int.{ints}
use Rattle.std.proofs.Common.{ℤ, rules, w32, to_z-of_z, subst}
use Rattle.game_turns.specs.Machines.{state_of}
use Rattle.game_known.specs.Copying.{IsSameBest}
use Rattle.game_known.proofs.TurnLaws.{known_turn}
use Rattle.game_known.proofs.turns.known_best_of_turn.Goals as goal

pub returns : goal.returns
returns c =
    let same : IsSameBest c.args.gave c.in_ok-kept.kept.now c.of_turn.result =
    subst (λ (g : ℤ). IsSameBest g c.in_ok-kept.kept.now c.of_turn.result) (to_z-of_z {w = w32} (search (rules, ints))) c.of_turn.ensures in
    λ by list are.
    known_turn by list (state_of c.args.machine.now) c.board.result.now c.args.event.now c.args.gave c.in-Some.rack c.in_ok-kept.kept.now c.of_turn.result (search rules) (search rules) (search rules)
    (c.in_ok-kept.ensures by list are) same
