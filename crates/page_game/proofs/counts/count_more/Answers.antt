use Rattle.page_game.proofs.Counting.{counted_more}
use Rattle.page_game.proofs.counts.count_more.Goals as goal

pub returns : goal.returns
returns c = λ answers are room. counted_more answers c.args.counts.now c.one_more.result c.args.answer are (c.one_more.ensures room)
