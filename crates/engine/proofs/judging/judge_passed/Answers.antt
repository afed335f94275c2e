use Rattle.std.proofs.Common.{subst}
use Rattle.game_turns.specs.Passing.{rules_in, record_in}
use Rattle.lex_check.specs.Pairs.{list_in}
use Rattle.engine.specs.Settling.{IsFoundBy}
use Rattle.engine.proofs.Settled.{none_found}
use Rattle.engine.proofs.judging.judge_passed.Goals as goal

pub unreachable-requires : goal.unreachable-requires
unreachable-requires c =
    none_found c.args.question (rules_in c.args.passed.now) (list_in c.args.pair.now) (record_in c.args.passed.now).events
    (subst (IsFoundBy c.args.question (rules_in c.args.passed.now) (list_in c.args.pair.now) (record_in c.args.passed.now).events) c.in-NoGame.is
    (c.in_ok-found_by.ensures (list_in c.args.pair.now) c.requires))
