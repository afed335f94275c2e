use Rattle.engine_stages.proofs.Runs.{runs}
use Rattle.engine.proofs.boards.run_board.Goals as goal

pub returns : goal.returns
returns g c = runs c.decide_board-decided.ensures c.finish.ensures
