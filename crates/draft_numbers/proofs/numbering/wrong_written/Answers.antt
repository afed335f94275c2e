use Rattle.std.proofs.Common.{false, arith}
use Rattle.draft_numbers.specs.Having.{totals_of}
use Rattle.draft_numbers.proofs.Numbered.{all_lines}
use Rattle.draft_numbers.proofs.numbering.wrong_written.Goals as goal

pub returns : goal.returns
returns c =
    let past = c.loop-place-test.false in
    all_lines c.loop-place.wrong.items (totals_of c.loop-place.had) c.loop-place.place c.lesser-end.result c.args.lacks.now c.args.written.now c.args.right.now _ c.lesser-end.ensures (omega (arith, past))
    c.loop-place.invariant
