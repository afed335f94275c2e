use Rattle.lex_check.specs.Pairs.{list_in}
use Rattle.engine_stages.specs.Reading.{ReadsNoMore}
use Rattle.engine_stages.proofs.Stages.{records, text_bad, text_last}
use Rattle.engine_stages.proofs.records.decide_by_pair.Goals as goal

pub returns-in-Err : goal.returns-in-Err
returns-in-Err g c =
    let read = c.in_ok-record in
    let arm = c.in-Err in
    text_bad records _ _ _ (λ r. ReadsNoMore (g.Q.GameQuestion.is_decided c.args.question.now c.args.rules.now (list_in c.args.pair.now) r)) read.field-0 arm.decision read.ensures arm.is tt

pub returns : goal.returns
returns g c =
    let read = c.in_ok-record in
    let arm = c.in-Ok in
    text_last records _ _ (λ r. g.Q.GameQuestion.is_decided c.args.question.now c.args.rules.now (list_in c.args.pair.now) r) read.field-0 arm.record c.in_ok-decide.field-0 read.ensures arm.is c.in_ok-decide.ensures
