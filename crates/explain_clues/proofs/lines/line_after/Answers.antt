use Rattle.std.proofs.Common.{◌≡◌, arith}
use Rattle.text_lines.specs.Lines.{without_mark, lines_in, lines_after}
use Rattle.explain_clues.proofs.Dropping.{none_remaining, more_remaining, one_remaining}
use Rattle.explain_clues.proofs.lines.line_after.Goals as goal

pub returns-in_default : goal.returns-in_default
returns-in_default c = none_remaining (lines_in (without_mark c.args.text.now)) c.loop-k.k c.args.others (rw c.in_default.is at c.loop-k.invariant) (omega (arith, c.loop-k-test.true))

pub loop-k-preserved : goal.loop-k-preserved
loop-k-preserved c =
    more_remaining (lines_in (without_mark c.args.text.now)) (lines_in c.in-Some.rest.now) (lines_after c.cut_line.result.after) c.cut_line.result.line.now c.loop-k.k
    (rw c.in-Some.is at c.loop-k.invariant) c.cut_line.ensures.lines

pub returns-in-None : goal.returns-in-None
returns-in-None c = none_remaining (lines_in (without_mark c.args.text.now)) c.loop-k.k c.args.others (rw c.in-None.is at c.loop-k.invariant) (omega (arith, c.loop-k-test.false, c.loop-k.auto.k-end))

pub returns-in-Some-remaining : goal.returns-in-Some-remaining
returns-in-Some-remaining c =
    let last : c.loop-k.k ≡ c.args.others = omega (arith, c.loop-k-test.false, c.loop-k.auto.k-end) in
    one_remaining (lines_in (without_mark c.args.text.now)) (lines_in c.in-Some-remaining.rest.now) (lines_after c.cut_line-in-Some-remaining.result.after) c.cut_line-in-Some-remaining.result.line.now c.args.others
    (rw (c.in-Some-remaining.is, last) at c.loop-k.invariant) c.cut_line-in-Some-remaining.ensures.lines
