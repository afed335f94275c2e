use Rattle.game_turns.specs.Passing.{rules_in, record_in}
use Rattle.lex_check.specs.Pairs.{list_in}
use Rattle.game_answers.proofs.VerdictLaws.{verdict_by}
use Rattle.game_answers.proofs.verdicts.verdict_on.Goals as goal

pub returns : goal.returns
returns c =
    let passed = c.args.passed.now in
    let words = list_in c.args.pair.now in
    verdict_by c.args.question (rules_in passed) words (record_in passed) c.in_ok-found.found c.verdict_in.result (c.in_ok-found.ensures words c.requires) c.verdict_in.ensures
