use Rattle.std.proofs.Common.{arith}
use Rattle.text_lines.proofs.Decimals.{ten_bound, digit_in, value_more}
use Rattle.text_lines.proofs.numerals.value.Goals as goal

pub overflow_sub-value : goal.overflow_sub-value
overflow_sub-value c = let d = digit_in c.args.digits.now c.loop-digit.digit-index c.requires.digits c.loop-digit-test.true in omega arith

pub loop-digit-preserved : goal.loop-digit-preserved
loop-digit-preserved c =
    let n = value_more c.args.digits.now c.loop-digit.digit-index c.loop-digit.value c.requires.digits c.loop-digit-test.true c.loop-digit.invariant.value c.loop-digit.invariant.small in
    record { value = n.value; small = n.small }

pub returns-clause-small : goal.returns-clause-small
returns-clause-small c = omega (arith, ten_bound c.loop-digit.digit-index (omega arith))
