use Rattle.archive_lines.proofs.Cuts.{fields_cut}
use Rattle.archive_lines.proofs.tab_reading.cut_field.Goals as goal

pub returns-in-Some-clause-fields : goal.returns-in-Some-clause-fields
returns-in-Some-clause-fields c = fields_cut c.args.line.now c.in-Some.end c.in-Some.ensures
