use Rattle.ref_play.proofs.LegalLaws.{legal_from}
use Rattle.ref_play.proofs.judging.judge.Goals as goal

pub returns-clause-legal : goal.returns-clause-legal
returns-clause-legal c = legal_from c.try_play.result c.args.play.now.dir c.args.board.now c.args.play.now.tiles.items c.law_of_squares.ensures c.args.play.now.proper c.try_play.ensures
