use Rattle.reply_answers.specs.Given.{read_of}
use Rattle.reply_answers.proofs.paged.paged.Goals as goal

pub returns-clause-paged : goal.returns-clause-paged
returns-clause-paged c = c.in_ok-paged_of.ensures (read_of c.args.game.now) c.in_ok-case.ensures.found
