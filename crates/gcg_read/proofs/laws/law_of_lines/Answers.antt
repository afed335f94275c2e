use Rattle.gcg_read.proofs.LinesRise.{lines_rise}
use Rattle.gcg_read.proofs.laws.law_of_lines.Goals as goal

pub returns : goal.returns
returns c = lines_rise
