use Rattle.std.proofs.Common.{sym}
use Rattle.ref_play.proofs.Placing.{last_square_at}
use Rattle.ref_play.proofs.legality.last_square.Goals as goal

pub returns-in-Some : goal.returns-in-Some
returns-in-Some c = sym (last_square_at c.args.first.now c.args.rest.now _ (sym c.in-Some.ensures.value))
