-- Verdicts on records, by what is found of them.
use Rattle.std.proofs.Common.{◌≡◌, ℕ, Bool, List, inl, inr}
use Rattle.ref_tiles.specs.declared.rulebook.Rules.{Rules}
use Rattle.gcg_read.specs.declared.events.Event.{Event}
use Rattle.gcg_read.specs.declared.records.Record.{Record}
use Rattle.game_turns.specs.declared.faults.RuleFault.{RuleFault}
use Rattle.game_turns.specs.Places.{IsFirstRefusal, is_finished}
use Rattle.deal_steps.specs.declared.faults.DealBound.TheVariants as deal
use Rattle.engine.specs.declared.judging.Judging.{Judging}
use Rattle.engine.specs.declared.judging.Judging.TheVariants as judging
use Rattle.engine_stages.specs.declared.verdicts.GameFault.{GameFault}
use Rattle.engine_stages.specs.declared.verdicts.GameFault.TheVariants as game
use Rattle.engine_stages.specs.declared.verdicts.Verdict.{Verdict}
use Rattle.engine_stages.specs.declared.verdicts.Verdict.TheVariants as verdict
use Rattle.engine_stages.specs.Reports.{illegal_line, unsettled_line}
use Rattle.engine_stages.specs.Reporting.{IsReported}
use Rattle.game_case.specs.declared.findings.Finding.TheVariants as finding
use Rattle.game_case.specs.Archiving.{IsFaulty}
use Rattle.game_case.specs.Settling.{ExceedBound}
use Rattle.engine.specs.Judging.{IsReportedLegal, IsPastBound}
use Rattle.engine.specs.Settling.{IsSettled, IsFoundBy, IsJudgedBy}

-- ---- an event that is not allowed

pub judged_refused : (question : Judging) (rules : Rules) (words : List (List ℕ)) (r : Record) (line : ℕ) (why : RuleFault) (v : Verdict) (report : List ℕ) → IsFirstRefusal rules words r.events line why
    → IsReported (verdict.Illegal line (game.Rule why)) (illegal_line line (game.Rule why)) v report → IsJudgedBy question rules words r v report
judged_refused judging.ByRule rules words r line why v report first reported = inr (inl (record { line = line; why = why; first = first; reported = reported }))
judged_refused judging.BySearch rules words r line why v report first reported = inr (inl (record { line = line; why = why; first = first; reported = reported }))

-- ---- what is found if all are

-- a record without an event is judged like any other
pub none_found : (question : Judging) (rules : Rules) (words : List (List ℕ)) (events : List Event) → IsFoundBy question rules words events finding.NoGame → ⊥
none_found judging.ByRule rules words events is = is
none_found judging.BySearch rules words events is = is

pub found_complete : (question : Judging) (rules : Rules) (words : List (List ℕ)) (events : List Event) (complete : Bool) → IsFoundBy question rules words events (finding.Legal complete)
    → complete ≡ is_finished rules events
found_complete judging.ByRule rules words events complete is = is.2
found_complete judging.BySearch rules words events complete is = is.1

pub judged_legal : (question : Judging) (rules : Rules) (words : List (List ℕ)) (r : Record) (complete : Bool) (v : Verdict) (report : List ℕ)
    → IsFoundBy question rules words r.events (finding.Legal complete) → IsReportedLegal rules words r v report → IsJudgedBy question rules words r v report
judged_legal judging.ByRule rules words r complete v report is reported = inl (record { allowed = is.0; is_dealt = is.1; reported = reported })
judged_legal judging.BySearch rules words r complete v report is reported = inl (record { game = is.0; reported = reported })

past_bound : (rules : Rules) (words : List (List ℕ)) (r : Record) (line : ℕ) (fault : GameFault) (v : Verdict) (report : List ℕ) → ExceedBound rules words r.events line fault
    → IsReported (verdict.Illegal line fault) (illegal_line line fault) v report → IsPastBound rules words r v report
past_bound rules words r line (game.Rule why) v report is reported = absurd is
past_bound rules words r line game.RackTooBig v report is reported = record { bound = deal.RackTooBig line; exceeded = is; reported = reported }
past_bound rules words r line (game.TilesShort kind) v report is reported = record { bound = deal.TilesShort line kind; exceeded = is; reported = reported }
past_bound rules words r line (game.NoDeal earlier) v report is reported = absurd is

faulty : (rules : Rules) (words : List (List ℕ)) (r : Record) (line : ℕ) (fault : GameFault) (v : Verdict) (report : List ℕ) → IsFaulty rules words r.events line fault
    → IsReported (verdict.Illegal line fault) (illegal_line line fault) v report → IsSettled rules words r v report
faulty rules words r line (game.Rule why) v report is reported = inr (inl (record { line = line; why = why; first = is; reported = reported }))
faulty rules words r line game.RackTooBig v report is reported = inr (inr (inl (record { bound = deal.RackTooBig line; exceeded = is; reported = reported })))
faulty rules words r line (game.TilesShort kind) v report is reported = inr (inr (inl (record { bound = deal.TilesShort line kind; exceeded = is; reported = reported })))
faulty rules words r line (game.NoDeal earlier) v report is reported = inr (inr (inr (inl (record { line = line; earlier = earlier; ends = is; reported = reported }))))

pub judged_illegal : (question : Judging) (rules : Rules) (words : List (List ℕ)) (r : Record) (line : ℕ) (fault : GameFault) (v : Verdict) (report : List ℕ)
    → IsFoundBy question rules words r.events (finding.Illegal line fault) → IsReported (verdict.Illegal line fault) (illegal_line line fault) v report → IsJudgedBy question rules words r v report
judged_illegal judging.ByRule rules words r line fault v report is reported = inr (inr (inl (past_bound rules words r line fault v report is reported)))
judged_illegal judging.BySearch rules words r line fault v report is reported = faulty rules words r line fault v report is reported

pub judged_open : (question : Judging) (rules : Rules) (words : List (List ℕ)) (r : Record) (v : Verdict) (report : List ℕ) → IsFoundBy question rules words r.events finding.Unsettled
    → IsReported verdict.Unsettled unsettled_line v report → IsJudgedBy question rules words r v report
judged_open judging.ByRule rules words r v report is reported = inr (inr (inr (record { unsettled = is; reported = reported })))
judged_open judging.BySearch rules words r v report is reported = inr (inr (inr (inr (record { unsettled = is; reported = reported }))))
