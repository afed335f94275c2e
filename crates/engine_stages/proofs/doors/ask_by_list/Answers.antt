use Rattle.std.proofs.Common.{◌≡◌, subst}
use Rattle.std.proofs.lemmas.Result.{err_from_is_err_and}
use Rattle.engine_stages.specs.Reading.{ReadsLexicon}
use Rattle.engine_stages.specs.Runs.{Gives}
use Rattle.engine_stages.specs.Sources.{lexicon_source}
use Rattle.engine_stages.proofs.Answering.{asks_bad_file, asks_lexicon}
use Rattle.engine_stages.proofs.Giving.{gives_failed, gives_stopped}
use Rattle.engine_stages.proofs.Stages.{paired_words}
use Rattle.engine_stages.proofs.doors.ask_by_list.Goals as goal

pub returns-in-Ok : goal.returns-in-Ok
returns-in-Ok g c =
    let read = c.in_ok-pair in
    let arm = c.in-Ok in
    let words = c.args.listed.now.list.now in
    let rules = c.args.listed.now.rules.now in
    let sources = g.Q.Question.sources c.args.more.now c.answer.new.more in
    let next = subst (λ ws. Gives g.Q.Answer.Answer.says sources (g.Q.Question.is_answer c.args.question.now rules ws) c.answer.result)
    (paired_words words c.deref.result.now read.field-0 arm.pair read.ensures arm.is) c.answer.ensures in
    asks_lexicon g.Q.Answer.Answer.says (λ b. b.items) (g.L.Input.device c.args.lexicon.now) (g.L.Input.device c.read_lexicon.new.lexicon) sources words
    (g.Q.Question.is_answer c.args.question.now rules words) c.in_ok-bytes.bytes c.deref.result.now read.field-0 arm.pair c.answer.result c.in_ok-bytes.ensures c.deref.ensures.value
    read.ensures arm.is next
    (λ x texts v report is. (g.met.Q.Question.later c.args.question.now rules words x texts v report is).lexicon)

pub returns : goal.returns
returns g c =
    let read = c.in_ok-pair in
    let arm = c.in-Err in
    let words = c.args.listed.now.list.now in
    let rules = c.args.listed.now.rules.now in
    asks_bad_file g.Q.Answer.Answer.says (λ b. b.items) (g.L.Input.device c.args.lexicon.now) (g.L.Input.device c.read_lexicon.new.lexicon)
    (g.Q.Question.sources c.args.more.now c.args.more.now) words (g.Q.Question.is_answer c.args.question.now rules words) c.in_ok-bytes.bytes c.deref.result.now read.field-0 arm.decision
    c.bad_input.result c.in_ok-bytes.ensures c.deref.ensures.value read.ensures arm.is (g.met.Q.Question.still c.args.more.now) c.bad_input.ensures.verdict c.bad_input.ensures.report

pub returns-in_err-pair : goal.returns-in_err-pair
returns-in_err-pair g c =
    let words = c.args.listed.now.list.now in
    let rules = c.args.listed.now.rules.now in
    gives_stopped g.Q.Answer.Answer.says (lexicon_source (g.L.Input.device c.args.lexicon.now) (g.L.Input.device c.read_lexicon.new.lexicon))
    (g.Q.Question.sources c.args.more.now c.args.more.now) (λ text b. b.items ≡ text)
    (λ x. ReadsLexicon words (g.Q.Question.is_answer c.args.question.now rules words x))
    c.in_ok-bytes.bytes c.from_residual-in_err-pair.result c.in_ok-bytes.ensures (g.met.Q.Question.still c.args.more.now) c.from_residual-in_err-pair.ensures.1

pub returns-in_err-bytes : goal.returns-in_err-bytes
returns-in_err-bytes g c =
    let words = c.args.listed.now.list.now in
    let rules = c.args.listed.now.rules.now in
    let p = err_from_is_err_and c.from_residual.result c.from_residual.ensures.1 in
    rw (p.1, p.2) (gives_failed g.Q.Answer.Answer.says (lexicon_source (g.L.Input.device c.args.lexicon.now) (g.L.Input.device c.read_lexicon.new.lexicon))
    (g.Q.Question.sources c.args.more.now c.args.more.now) (λ text b. b.items ≡ text)
    (λ x. ReadsLexicon words (g.Q.Question.is_answer c.args.question.now rules words x)) c.in_err-bytes.field-0.0 c.in_err-bytes.ensures (g.met.Q.Question.still c.args.more.now))
