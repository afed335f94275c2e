use Rattle.game_turns.specs.Machines.{state_of}
use Rattle.game_case.proofs.WalkedRecords.{complete_at_end}
use Rattle.repair_answers.proofs.no_change.settled.Goals as goal

pub of_allowed-passed-requires-clause-finished : goal.of_allowed-passed-requires-clause-finished
of_allowed-passed-requires-clause-finished c =
    complete_at_end c.args.rules.now c.args.game.now.events (state_of c.end.result.now) c.finished-complete.result c.finished-complete.ensures
    (c.end.ensures c.args.rules.now c.args.list.now c.args.game.now.events c.requires.walked)
