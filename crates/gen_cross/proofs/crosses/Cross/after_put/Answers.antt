use Rattle.std.proofs.Common.{Some}
use Rattle.gen_cross.proofs.crosses.Cross.after_put.Goals as goal

pub returns : goal.returns
returns g c = λ words before stands put right. c.renew.ensures words before (Some put.tile) stands put.put right
