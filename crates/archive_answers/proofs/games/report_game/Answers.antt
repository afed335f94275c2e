use Rattle.gcg_read.specs.Records.{most_bytes}
use Rattle.lex_check.specs.Pairs.{list_in}
use Rattle.archive_answers.proofs.Reporting.{read_on}
use Rattle.archive_answers.proofs.games.report_game.Goals as goal

pub returns : goal.returns
returns g c =
    read_on most_bytes (g.G.Input.device c.args.game.now) (g.G.Input.device c.open_case.new.game) c.args.asked.now c.args.rules.now (list_in c.args.pair.now) c.args.name c.in_ok-case.case
    c.in_ok-report_case.field-0 c.in_ok-case.ensures c.in_ok-report_case.ensures
