use Rattle.std.proofs.Common.{refl, arith}
use Rattle.gen_moves.specs.Bounds.{total, times}
use Rattle.gen_moves.proofs.stretches.Sum.none.Goals as goal

pub returns-clause-sum : goal.returns-clause-sum
unfolding total times
returns-clause-sum c places first = record { old = refl; word = refl; side = refl; free = refl; letters = refl; crosses = refl; letter = λ i low high free. absurd (omega arith); cross = λ i low high free. absurd (omega arith) }
