use Rattle.std.proofs.Common.{arith}
use Rattle.json_trees.proofs.Wide.{wide_number}
use Rattle.json_trees.proofs.writing.write_wide.Goals as goal

pub number-requires : goal.number-requires
number-requires c = rw c.format.ensures.text (wide_number c.args.n (omega (arith, c.ranges.n)))
