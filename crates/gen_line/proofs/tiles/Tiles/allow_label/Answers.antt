use Rattle.std.proofs.Common.{arith, ◌-◌}
use Rattle.gen_line.proofs.Walks.{shows-letter}
use Rattle.gen_line.proofs.tiles.Tiles.allow_label.Goals as goal

pub returns-then-self-letter-gt0 : goal.returns-then-self-letter-gt0
returns-then-self-letter-gt0 c =
    let is = shows-letter c.args.free.now c.args.self.now.rack c.args.label (c.from-letter.result - 1) c.requires.low (omega arith) in
    grind (arith, is)

pub returns-else-self-letter-gt0 : goal.returns-else-self-letter-gt0
returns-else-self-letter-gt0 c =
    let is = shows-letter c.args.free.now c.args.self.now.rack c.args.label (c.from-letter.result - 1) c.requires.low (omega arith) in
    grind (arith, is)

pub returns-else-free-letter : goal.returns-else-free-letter
returns-else-free-letter c =
    let is = shows-letter c.args.free.now c.args.self.now.rack c.args.label (c.from-letter.result - 1) c.requires.low (omega arith) in
    grind (arith, is)
