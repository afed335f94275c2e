use Rattle.std.proofs.Common.{sym, arith}
use Rattle.gcg_numbers.proofs.Uniqueness.{last_there, none_there}
use Rattle.gcg_numbers.proofs.cutting.last_field.Goals as goal

pub returns-then-end-eq0 : goal.returns-then-end-eq0
returns-then-end-eq0 c = sym (none_there c.args.text.now c.count_before-end.result (omega (arith, c.if-end-eq0.true)) c.count_before-end.ensures.following)

pub returns : goal.returns
returns c =
    let end = c.count_before-end.ensures in
    let start = c.count_before-start.ensures in
    sym (last_there c.args.text.now c.count_before-start.result c.count_before-end.result (omega (arith, c.if-end-eq0.false)) end.bound end.following end.stops start.bound start.following start.stops)
