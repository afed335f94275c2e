use Rattle.std.proofs.Common.{ℕ, List, get_or, ap, ◌∙◌, arith}
use Rattle.deal_completion.proofs.PickLoops.{below_here, below_past}
use Rattle.deal_completion.proofs.picking.first_remaining.Goals as goal

pub returns-then-numbers-kind-gt0-clause-first : goal.returns-then-numbers-kind-gt0-clause-first
returns-then-numbers-kind-gt0-clause-first c =
    let same = ap (λ (xs : List ℕ). get_or xs c.loop-kind.kind 0) c.numbers-numbers.ensures.numbers in
    below_here (λ k. 0) (λ k. get_or c.args.remaining.now k 0) c.loop-kind.kind (omega arith) (omega arith) ∙ c.loop-kind.invariant

pub loop-kind-preserved : goal.loop-kind-preserved
loop-kind-preserved c =
    let same = ap (λ (xs : List ℕ). get_or xs c.loop-kind.kind 0) c.numbers-numbers.ensures.numbers in
    below_past (λ k. 0) (λ k. get_or c.args.remaining.now k 0) c.loop-kind.kind (omega arith) (omega arith) ∙ c.loop-kind.invariant
