use Rattle.std.proofs.Common.{◌∷◌, refl}
use Rattle.engine_stages.specs.declared.verdicts.Verdict.TheVariants as verdict
use Rattle.engine_stages.specs.Reading.{ReadsList, ReadsLexicon}
use Rattle.engine_stages.specs.Sources.{words_source, lexicon_source}
use Rattle.engine_stages.specs.Stages.{IsListOf}
use Rattle.engine_stages.specs.laws.Sparing.{lexicon_spares}
use Rattle.engine_stages.proofs.Answering.{asks_bad, asks_list}
use Rattle.engine_stages.proofs.Giving.{gives_failed}
use Rattle.engine_stages.proofs.Stages.{lists}
use Rattle.engine_stages.proofs.doors.ask_by_rules.Goals as goal

pub returns-in-Ok-Ok : goal.returns-in-Ok-Ok
returns-in-Ok-Ok g c =
    let arm = c.in-Ok-Ok in
    let rules = c.args.rules.now in
    let question = c.args.question.now in
    asks_list g.Q.Answer.Answer.says (g.W.Input.device c.args.words.now) (g.W.Input.device c.read_list.new.words)
    (lexicon_source (g.L.Input.device c.args.lexicon.now) (g.L.Input.device c.ask_by_list.new.lexicon) ∷ g.Q.Question.sources c.args.more.now c.ask_by_list.new.more)
    (λ x list. ReadsLexicon list (g.Q.Question.is_answer question rules list x)) arm.field-0 arm.list c.ask_by_list.result arm.ensures arm.field-0-is c.ask_by_list.ensures
    (λ x. lexicon_spares verdict.BadList arm.list (g.Q.Question.is_answer question rules arm.list x) (λ same. cc)
    (λ texts v report is. (g.met.Q.Question.later question rules arm.list x texts v report is).words))

pub returns-in-Ok-Err : goal.returns-in-Ok-Err
returns-in-Ok-Err g c =
    let arm = c.in-Ok-Err in
    let rules = c.args.rules.now in
    let question = c.args.question.now in
    asks_bad g.Q.Answer.Answer.says lists (g.W.Input.device c.args.words.now) (g.W.Input.device c.read_list.new.words)
    (lexicon_source (g.L.Input.device c.args.lexicon.now) (g.L.Input.device c.args.lexicon.now) ∷ g.Q.Question.sources c.args.more.now c.args.more.now)
    (λ x list. ReadsLexicon list (g.Q.Question.is_answer question rules list x)) arm.field-0 arm.decision c.bad_input.result arm.ensures arm.field-0-is
    (refl, g.met.Q.Question.still c.args.more.now) c.bad_input.ensures.verdict c.bad_input.ensures.report

pub returns-in-Err : goal.returns-in-Err
returns-in-Err g c =
    let rules = c.args.rules.now in
    let question = c.args.question.now in
    gives_failed g.Q.Answer.Answer.says (words_source (g.W.Input.device c.args.words.now) (g.W.Input.device c.read_list.new.words))
    (lexicon_source (g.L.Input.device c.args.lexicon.now) (g.L.Input.device c.args.lexicon.now) ∷ g.Q.Question.sources c.args.more.now c.args.more.now) IsListOf
    (λ x. ReadsList (λ list. ReadsLexicon list (g.Q.Question.is_answer question rules list x))) c.in-Err.fault c.in-Err.ensures (refl, g.met.Q.Question.still c.args.more.now)
