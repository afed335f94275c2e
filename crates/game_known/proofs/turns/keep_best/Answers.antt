use Rattle.std.proofs.Common.{rules, pos}
use Rattle.game_turns.specs.Machines.{state_of}
use Rattle.game_known.proofs.TurnLaws.{shown_turn}
use Rattle.game_known.proofs.turns.keep_best.Goals as goal

pub returns-in-Some : goal.returns-in-Some
returns-in-Some c = λ by list are is.
    c.keep.ensures by list are
    (shown_turn by list (state_of c.args.machine.now) c.board.result.now c.args.event.now (pos 0) c.in-Some.rack c.args.best is (search rules) (search rules) (search rules))
