use Rattle.std.proofs.Common.{◌≡◌, length, arith}
use Rattle.repair_answers.proofs.LinesFound.{all_there}
use Rattle.repair_answers.proofs.bad_records.all_lines.Goals as goal

pub returns : goal.returns
returns c = all_there c.args.found.now c.loop-number.number c.loop-number.lines.items c.loop-number.invariant (omega arith)
