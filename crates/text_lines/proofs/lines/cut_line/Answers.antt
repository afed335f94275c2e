use Rattle.text_lines.proofs.LineCuts.{lines_cut}
use Rattle.text_lines.proofs.lines.cut_line.Goals as goal

pub returns-in-Some-clause-lines : goal.returns-in-Some-clause-lines
returns-in-Some-clause-lines c =
    lines_cut c.args.text.now c.without_return-in-Some.result.now c.in-Some.end c.in-Some.ensures c.without_return-in-Some.ensures
