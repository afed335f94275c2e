use Rattle.std.proofs.Common.{None}
use Rattle.gen_cross.proofs.crosses.Cross.after_lift.Goals as goal

pub returns : goal.returns
returns g c = λ words before stands lift right. c.renew.ensures words before None stands lift.lifted right
