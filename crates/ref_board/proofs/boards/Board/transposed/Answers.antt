use Rattle.std.proofs.Common.{arith}
use Rattle.ref_board.proofs.Transposing.{transposed-is, transposed-has}
use Rattle.ref_board.proofs.boards.Board.transposed.Goals as goal

pub returns-clause-board : goal.returns-clause-board
returns-clause-board c =
    transposed-is c.loop-number.cells c.args.self.now c.loop-number.invariant.size (λ square on. c.loop-number.invariant.filled square (omega (arith, c.loop-number-test.false)))

pub returns-clause-exact : goal.returns-clause-exact
returns-clause-exact c =
    transposed-has c.loop-number.cells c.args.self.now (λ square on. c.loop-number.invariant.filled square (omega (arith, c.loop-number-test.false)))
