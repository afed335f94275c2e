use Rattle.std.proofs.Common.{◌*◌, ◌==◌, ◌∙◌, arith}
use Rattle.std.proofs.lemmas.Bool.{ne_eqb}
use Rattle.game_turns.proofs.Lists.{any_more}
use Rattle.game_turns.proofs.amounts.is_bonus_for.Goals as goal

pub loop-number-preserved : goal.loop-number-preserved
loop-number-preserved c =
    let n = c.loop-number.number in
    any_more (λ k. c.args.amount == c.args.unit * k) n c.args.words (omega arith) (ne_eqb c.args.amount (c.args.unit * n) c.if-amount-unit.false) ∙ c.loop-number.invariant
