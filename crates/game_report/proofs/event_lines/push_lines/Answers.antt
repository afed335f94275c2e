use Rattle.game_turns.specs.Passing.{rules_in, record_in}
use Rattle.lex_check.specs.Pairs.{list_in}
use Rattle.game_report.proofs.BesideLaws.{start_together}
use Rattle.game_report.proofs.ReportLines.{no_lines}
use Rattle.game_report.proofs.event_lines.push_lines.Goals as goal

pub loop-place-init : goal.loop-place-init
loop-place-init c =
    record {
      stand = start_together _ _ _ _ _ _ _ c.rules.ensures c.rules-2.ensures c.new-machine.ensures.rules c.new-machine.ensures.state c.new-follow.ensures.board c.new-follow.ensures.follows;
      latest = c.new-latest.ensures (rules_in c.args.passed.now) (list_in c.args.pair.now);
      lines = no_lines (rules_in c.args.passed.now) (list_in c.args.pair.now) (record_in c.args.passed.now) c.args.text.now.items;
    }
