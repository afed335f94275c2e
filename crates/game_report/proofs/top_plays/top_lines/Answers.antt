use Rattle.std.proofs.Common.{rules, arith}
use Rattle.game_report.proofs.TopLines.{legal_at, lines_of_all}
use Rattle.game_report.proofs.top_plays.top_lines.Goals as goal

pub push_play_line-requires : goal.push_play_line-requires
push_play_line-requires c = legal_at c.args.board.now c.args.plays.now c.loop-scored.scored-index c.scored-item.result c.requires c.loop-scored-test.true c.scored-item.is

pub returns : goal.returns
returns c = lines_of_all c.args.board.now c.args.plays.now c.loop-scored.scored-index c.loop-scored.text.items (search (rules, arith)) c.loop-scored-test.false c.loop-scored.invariant
