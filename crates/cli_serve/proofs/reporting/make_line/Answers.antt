use Rattle.std.proofs.Common.{codes}
use Rattle.lex_check.specs.Pairs.{list_in}
use Rattle.cli_serve.proofs.AnswerLines.{not_json}
use Rattle.cli_serve.proofs.reporting.make_line.Goals as goal

pub returns-in-Err-2-clause-line : goal.returns-in-Err-2-clause-line
returns-in-Err-2-clause-line c =
    not_json _ c.args.judges.now.maker.now c.args.judges.now.rules.now (list_in c.args.judges.now.pair.now) c.args.line.now c.is_memory.result (codes "null") c.clear.new.self.items
    c.push_refused.new.out.items c.push_refused.result c.if-is_memory.false c.is_memory.ensures.1 c.in-Err.ensures.err c.clear.ensures.items c.push_refused.ensures
