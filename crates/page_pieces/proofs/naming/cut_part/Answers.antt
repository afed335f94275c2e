use Rattle.page_pieces.proofs.Cuts.{parts_cut}
use Rattle.page_pieces.proofs.naming.cut_part.Goals as goal

pub returns-in-Some-clause-parts : goal.returns-in-Some-clause-parts
returns-in-Some-clause-parts c = parts_cut c.args.name.now c.in-Some.end c.in-Some.ensures
