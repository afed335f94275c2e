use Rattle.gcg_numbers.proofs.Cuts.{lines_cut}
use Rattle.gcg_numbers.proofs.raw_lines.cut_raw_line.Goals as goal

pub returns-in-Some-clause-lines : goal.returns-in-Some-clause-lines
returns-in-Some-clause-lines c = lines_cut c.args.text.now c.in-Some.end c.in-Some.ensures
