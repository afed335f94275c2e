use Rattle.std.proofs.Common.{◌∷◌, refl}
use Rattle.engine_stages.specs.declared.verdicts.Verdict.TheVariants as verdict
use Rattle.engine_stages.specs.Reading.{ReadsList, ReadsLexicon, ReadsRulesBut}
use Rattle.engine_stages.specs.Sources.{words_source, lexicon_source}
use Rattle.engine_stages.specs.laws.Sparing.{list_spares, lexicon_spares}
use Rattle.engine_stages.proofs.Answering.{asks_unruled, asks_bad_rules, asks_rules}
use Rattle.engine_stages.proofs.doors.ask.Goals as goal

pub returns-in-Ok-Ok : goal.returns-in-Ok-Ok
returns-in-Ok-Ok g c =
    let arm = c.in-Ok-Ok in
    let question = c.args.question.now in
    let rules = arm.stated in
    asks_rules g.Q.Answer.Answer.says (g.S.RulesSource.known c.args.rules.now) (g.S.RulesSource.text c.args.rules.now) (g.S.RulesSource.text c.read.new.self)
    (words_source (g.W.Input.device c.args.words.now) (g.W.Input.device c.ask_by_rules.new.words)
    ∷ lexicon_source (g.L.Input.device c.args.lexicon.now) (g.L.Input.device c.ask_by_rules.new.lexicon) ∷ g.Q.Question.sources c.args.more.now c.ask_by_rules.new.more)
    (λ x stated. ReadsList (λ list. ReadsLexicon list (g.Q.Question.is_answer question stated list x))) arm.field-0 rules c.ask_by_rules.result arm.ensures arm.field-0-is c.ask_by_rules.ensures
    (λ x. list_spares verdict.BadRules (λ list. ReadsLexicon list (g.Q.Question.is_answer question rules list x)) (λ same. cc)
    (λ list. lexicon_spares verdict.BadRules list (g.Q.Question.is_answer question rules list x) (λ same. cc)
    (λ texts v report is. (g.met.Q.Question.later question rules list x texts v report is).rules)))

pub returns-in-Ok-Err : goal.returns-in-Ok-Err
returns-in-Ok-Err g c =
    let arm = c.in-Ok-Err in
    let question = c.args.question.now in
    asks_bad_rules g.Q.Answer.Answer.says (g.S.RulesSource.known c.args.rules.now) (g.S.RulesSource.text c.args.rules.now) (g.S.RulesSource.text c.read.new.self)
    (words_source (g.W.Input.device c.args.words.now) (g.W.Input.device c.args.words.now)
    ∷ lexicon_source (g.L.Input.device c.args.lexicon.now) (g.L.Input.device c.args.lexicon.now) ∷ g.Q.Question.sources c.args.more.now c.args.more.now)
    (λ x stated. ReadsList (λ list. ReadsLexicon list (g.Q.Question.is_answer question stated list x))) arm.field-0 arm.decision c.bad_input.result arm.ensures arm.field-0-is
    (refl, (refl, g.met.Q.Question.still c.args.more.now)) c.bad_input.ensures.verdict c.bad_input.ensures.report

pub returns-in-Err : goal.returns-in-Err
returns-in-Err g c =
    let arm = c.in-Err in
    let question = c.args.question.now in
    asks_unruled g.Q.Answer.Answer.says (g.S.RulesSource.known c.args.rules.now) (g.S.RulesSource.text c.args.rules.now) (g.S.RulesSource.text c.read.new.self)
    (words_source (g.W.Input.device c.args.words.now) (g.W.Input.device c.args.words.now)
    ∷ lexicon_source (g.L.Input.device c.args.lexicon.now) (g.L.Input.device c.args.lexicon.now) ∷ g.Q.Question.sources c.args.more.now c.args.more.now)
    (λ x. ReadsRulesBut (g.S.RulesSource.known c.args.rules.now) (λ stated. ReadsList (λ list. ReadsLexicon list (g.Q.Question.is_answer question stated list x)))) arm.fault arm.ensures
    (refl, (refl, g.met.Q.Question.still c.args.more.now))
