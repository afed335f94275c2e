-- Verdicts on records with what is answered for their events, as `judge` answers them.
use Rattle.std.proofs.Common.{◌≡◌, inl, inr, ℕ, Bool, true, false, List, [], length, Option, Some, None, refl, sym, ap, ◌∙◌, subst}
use Rattle.ref_tiles.specs.declared.rulebook.Rules.{Rules}
use Rattle.gcg_read.specs.declared.events.Event.{Event}
use Rattle.gcg_read.specs.declared.records.Record.{Record}
use Rattle.game_turns.specs.declared.faults.RuleFault.{RuleFault}
use Rattle.game_turns.specs.Places.{AreAllowed, IsFirstRefusal}
use Rattle.engine_stages.specs.declared.verdicts.Verdict.{Verdict}
use Rattle.engine_stages.specs.declared.verdicts.Verdict.TheVariants as verdict
use Rattle.engine.specs.declared.judging.Judging.{Judging}
use Rattle.game_case.specs.declared.findings.Finding.{Finding}
use Rattle.game_case.specs.declared.findings.Finding.TheVariants as finding
use Rattle.game_case.specs.Explaining.{verdict_in}
use Rattle.engine.specs.Judging.{IsReportedLegal}
use Rattle.engine.specs.Settling.{IsFoundBy, IsJudgedBy}
use Rattle.game_turns.proofs.PlaceLaws.{first_not_allowed}
use Rattle.engine.proofs.Settled as settled
use Rattle.game_report.specs.EventLines.{AreEventLines}
use Rattle.game_answers.specs.declared.answers.EventAnswer.{EventAnswer}
use Rattle.game_answers.specs.declared.leaving.GameAnswers.{GameAnswers}
use Rattle.game_answers.specs.Answers.{AreAnswersTo}
use Rattle.game_answers.specs.Bounds.{legal_verdict, refused_verdict}
use Rattle.game_answers.specs.Games.{IsVerdictOn, IsVerdict, AreAnswered, IsJudged, report_of}
use Rattle.game_answers.specs.Leaving.{AreRemaining}
use Rattle.game_answers.specs.Reports.{lines_to, report_by}
use Rattle.game_answers.proofs.Lines.{lines_of_answers}

-- ---- the report of a verdict, with the lines of the events

legal_reported : (rules : Rules) (words : List (List ℕ)) (r : Record) (v : Verdict) (lines : List ℕ) → v ≡ legal_verdict rules r.events → AreEventLines rules words r (length r.events) lines
    → IsReportedLegal rules words r v (report_by v lines)
legal_reported rules words r v lines is are =
    record { verdict_is = is; reported = record { reported = lines; is_reported = are; following = ap (λ (x : Verdict). report_by x lines) is } }

verdict_of : (question : Judging) (rules : Rules) (words : List (List ℕ)) (r : Record) (f : Finding) → IsFoundBy question rules words r.events f
    → IsVerdictOn question rules words r (verdict_in f)
verdict_of question rules words r finding.NoGame is = absurd (settled.none_found question rules words r.events is)
verdict_of question rules words r (finding.Legal complete) is =
    let v = verdict.Legal complete in
    let same : v ≡ legal_verdict rules r.events = ap (λ (b : Bool). verdict.Legal b) (settled.found_complete question rules words r.events complete is) in
    record { judged = λ lines are. settled.judged_legal question rules words r complete v (report_by v lines) is (legal_reported rules words r v lines same are) }
verdict_of question rules words r (finding.Illegal line fault) is =
    let v = verdict.Illegal line fault in
    record { judged = λ lines are. settled.judged_illegal question rules words r line fault v (report_by v lines) is (record { verdict_is = refl; reported = refl }) }
verdict_of question rules words r finding.Unsettled is =
    let v = verdict.Unsettled in
    record { judged = λ lines are. settled.judged_open question rules words r v (report_by v lines) is (record { verdict_is = refl; reported = refl }) }

-- the verdict on a record in which the rules allow every event, by what is found of it
pub verdict_by : (question : Judging) (rules : Rules) (words : List (List ℕ)) (r : Record) (f : Finding) (v : Verdict) → IsFoundBy question rules words r.events f → v ≡ verdict_in f
    → IsVerdictOn question rules words r v
verdict_by question rules words r f v is same = subst (λ (x : Verdict). IsVerdictOn question rules words r x) (sym same) (verdict_of question rules words r f is)

-- ---- with the answers of the events

verdict_allowed : (question : Judging) (rules : Rules) (words : List (List ℕ)) (r : Record) (v : Verdict) → AreAllowed rules words r.events → IsVerdictOn question rules words r v
    → IsVerdict question rules words r v
verdict_allowed question rules words r v allowed on = inl (allowed, on)

-- the report of a verdict with answers, if they are asked for
report_with : (question : Judging) (rules : Rules) (words : List (List ℕ)) (r : Record) (v : Verdict) (a : Option GameAnswers) → AreAllowed rules words r.events
    → IsVerdictOn question rules words r v → AreAnswered true rules words r.events a → IsJudgedBy question rules words r v (report_of r.players r.events v a)
report_with question rules words r v None allowed on none = absurd (none allowed)
report_with question rules words r v (Some a) allowed on are =
    on.judged (lines_to r.players r.events a.events.items (length r.events)) (lines_of_answers rules words r (length r.events) a.events.items are.1)

-- the verdict on a record in which the rules allow every event
pub judged_with : (best : Bool) (question : Judging) (rules : Rules) (words : List (List ℕ)) (r : Record) (v : Verdict) (a : Option GameAnswers) → AreAllowed rules words r.events
    → IsVerdictOn question rules words r v → AreAnswered best rules words r.events a → IsJudged best question rules words r v a
judged_with best question rules words r v a allowed on are =
    record {
      verdict = verdict_allowed question rules words r v allowed on;
      answered = are;
      judged = λ asked. report_with question rules words r v a allowed on (subst (λ (b : Bool). AreAnswered b rules words r.events a) asked are);
    }

-- the answers that are asked for; `game` is the record as it was lent, and `shown` its events
pub answered_all : (rules : Rules) (words : List (List ℕ)) (game r : Record) (shown : List Event) (answers : List EventAnswer) (a : GameAnswers) → AreAllowed rules words r.events
    → AreAnswersTo rules words r.events (length r.events) answers → game ≡ r → shown ≡ game.events → a.events.items ≡ answers → AreRemaining shown a
    → AreAnswered true rules words r.events (Some a)
answered_all rules words game r shown answers a allowed are same shows kept remaining =
    let all : shown ≡ r.events = shows ∙ ap (λ (g : Record). g.events) same in (
      allowed,
      subst (λ (xs : List EventAnswer). AreAnswersTo rules words r.events (length r.events) xs) (sym kept) are,
      subst (λ (es : List Event). AreRemaining es a) all remaining,
    )

none_answered : (best : Bool) (rules : Rules) (words : List (List ℕ)) (events : List Event) → (AreAllowed rules words events → ⊥) → AreAnswered best rules words events None
none_answered true rules words events refused = refused
none_answered false rules words events refused = refl

refused_with : (best : Bool) (question : Judging) (rules : Rules) (words : List (List ℕ)) (r : Record) (line : ℕ) (why : RuleFault) → IsFirstRefusal rules words r.events line why
    → IsJudged best question rules words r (refused_verdict line why) None
refused_with best question rules words r line why first =
    let by = settled.judged_refused question rules words r line why (refused_verdict line why) (report_by (refused_verdict line why) []) first (record { verdict_is = refl; reported = refl }) in
    let never = first_not_allowed rules words r.events line why first in
    record { verdict = inr (never, by); answered = none_answered best rules words r.events never; judged = λ asked. by }

-- the verdict on a record in which the rules refuse an event
pub judged_refused : (best : Bool) (question : Judging) (rules : Rules) (words : List (List ℕ)) (r : Record) (line : ℕ) (why : RuleFault) (v : Verdict) (a : Option GameAnswers)
    → IsFirstRefusal rules words r.events line why → v ≡ refused_verdict line why → a ≡ None → IsJudged best question rules words r v a
judged_refused best question rules words r line why v a first is none =
    subst (λ (x : Verdict). IsJudged best question rules words r x a) (sym is)
    (subst (λ (o : Option GameAnswers). IsJudged best question rules words r (refused_verdict line why) o) (sym none) (refused_with best question rules words r line why first))
