use Rattle.std.proofs.Common.{ℕ, List, subst}
use Rattle.game_turns.specs.Places.{IsFirstRefusal}
use Rattle.lex_check.specs.Pairs.{list_in}
use Rattle.game_answers.proofs.VerdictLaws.{judged_refused}
use Rattle.game_answers.proofs.judging.judge_record.Goals as goal

pub returns-in-Err-clause-judged : goal.returns-in-Err-clause-judged
returns-in-Err-clause-judged c =
    let first =
    subst (λ (words : List (List ℕ)). IsFirstRefusal c.args.rules.now words c.args.game.now.events c.in-Err.line c.in-Err.fault) c.list.ensures.list
    c.in-Err.ensures.refused
    in judged_refused c.args.best c.args.question c.args.rules.now (list_in c.args.pair.now) c.args.game.now c.in-Err.line c.in-Err.fault c.refused.result.verdict
    c.refused.result.answers first c.refused.ensures.verdict c.refused.ensures.answers
