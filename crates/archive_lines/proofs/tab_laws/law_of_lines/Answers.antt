use Rattle.archive_lines.proofs.TabReadBack.{read_back, one_line}
use Rattle.archive_lines.proofs.tab_laws.law_of_lines.Goals as goal

pub returns-clause-read_back : goal.returns-clause-read_back
returns-clause-read_back c = read_back

pub returns-clause-one_line : goal.returns-clause-one_line
returns-clause-one_line c = one_line
