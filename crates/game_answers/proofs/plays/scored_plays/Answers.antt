use Rattle.game_report.proofs.TopLines.{legal_at}
use Rattle.game_answers.proofs.PlayLaws.{all_plays}
use Rattle.game_answers.proofs.plays.scored_plays.Goals as goal

pub scored_play-requires : goal.scored_play-requires
scored_play-requires c = legal_at c.args.board.now c.args.plays.now c.loop-scored.scored-index c.scored-item.result c.requires c.loop-scored-test.true c.scored-item.is

pub returns : goal.returns
returns c = all_plays c.args.board.now c.args.plays.now c.loop-scored.scored-index c.loop-scored.kept.items c.loop-scored-test.false c.loop-scored.invariant
