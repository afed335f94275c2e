-- No answer of judging a game is that an input is bad.
use Rattle.std.proofs.Common.{◌⊎◌, ℕ, Bool, List, ⊎_elim}
use Rattle.ref_tiles.specs.declared.rulebook.Rules.{Rules}
use Rattle.gcg_read.specs.declared.records.Record.{Record}
use Rattle.game_turns.specs.Places.{is_finished}
use Rattle.deal_steps.specs.declared.faults.DealBound.{DealBound}
use Rattle.deal_steps.specs.declared.faults.DealBound.TheVariants as deal
use Rattle.engine.specs.declared.judging.Judging.{Judging}
use Rattle.engine.specs.declared.judging.Judging.TheVariants as judging
use Rattle.engine_stages.specs.declared.verdicts.GameFault.TheVariants as game
use Rattle.engine_stages.specs.declared.verdicts.Verdict.{Verdict}
use Rattle.engine_stages.specs.declared.verdicts.Verdict.TheVariants as verdict
use Rattle.engine.specs.Judging.{IsLegal, IsRefused, IsPastBound, RemainsOpen, IsReportedBound, IsJudged}
use Rattle.engine.specs.laws.Verdicts.{own_as, illegal_own, refused_own}
use Rattle.engine.specs.Settling.{IsSettledLegal, IsUndealt, IsSettled, IsJudgedBy}
use Rattle.engine_stages.specs.Reporting.{IsOwn}

pub legal_own : (complete : Bool) → IsOwn (verdict.Legal complete)
legal_own complete = record { rules = λ bad. cc; words = λ bad. cc; lexicon = λ bad. cc; game = λ bad. cc }

unsettled_own : IsOwn verdict.Unsettled
unsettled_own = record { rules = λ bad. cc; words = λ bad. cc; lexicon = λ bad. cc; game = λ bad. cc }

bound_own : (bound : DealBound) (v : Verdict) (report : List ℕ) → IsReportedBound bound v report → IsOwn v
bound_own (deal.RackTooBig line) v report is = own_as v (verdict.Illegal line game.RackTooBig) is.verdict_is (illegal_own line game.RackTooBig)
bound_own (deal.TilesShort line kind) v report is = own_as v (verdict.Illegal line (game.TilesShort kind)) is.verdict_is (illegal_own line (game.TilesShort kind))

judged_own : (rules : Rules) (words : List (List ℕ)) (r : Record) (v : Verdict) (report : List ℕ) → IsJudged rules words r v report → IsOwn v
judged_own rules words r v report is =
    ⊎_elim
    (λ (legal : IsLegal rules words r v report). own_as v (verdict.Legal (is_finished rules r.events)) legal.reported.verdict_is (legal_own (is_finished rules r.events)))
    (λ (rest : IsRefused rules words r v report ⊎ IsPastBound rules words r v report ⊎ RemainsOpen rules words r v report).
    ⊎_elim
    (λ (refused : IsRefused rules words r v report). refused_own rules words r v report refused)
    (λ (others : IsPastBound rules words r v report ⊎ RemainsOpen rules words r v report).
    ⊎_elim
    (λ (past : IsPastBound rules words r v report). bound_own past.bound v report past.reported)
    (λ (remaining : RemainsOpen rules words r v report). own_as v verdict.Unsettled remaining.reported.verdict_is unsettled_own)
    others)
    rest)
    is

settled_own : (rules : Rules) (words : List (List ℕ)) (r : Record) (v : Verdict) (report : List ℕ) → IsSettled rules words r v report → IsOwn v
settled_own rules words r v report is =
    ⊎_elim
    (λ (legal : IsSettledLegal rules words r v report). own_as v (verdict.Legal (is_finished rules r.events)) legal.reported.verdict_is (legal_own (is_finished rules r.events)))
    (λ (rest : IsRefused rules words r v report ⊎ IsPastBound rules words r v report ⊎ IsUndealt rules words r v report ⊎ RemainsOpen rules words r v report).
    ⊎_elim
    (λ (refused : IsRefused rules words r v report). refused_own rules words r v report refused)
    (λ (others : IsPastBound rules words r v report ⊎ IsUndealt rules words r v report ⊎ RemainsOpen rules words r v report).
    ⊎_elim
    (λ (past : IsPastBound rules words r v report). bound_own past.bound v report past.reported)
    (λ (last : IsUndealt rules words r v report ⊎ RemainsOpen rules words r v report).
    ⊎_elim
    (λ (none : IsUndealt rules words r v report). own_as v (verdict.Illegal none.line (game.NoDeal none.earlier)) none.reported.verdict_is (illegal_own none.line (game.NoDeal none.earlier)))
    (λ (remaining : RemainsOpen rules words r v report). own_as v verdict.Unsettled remaining.reported.verdict_is unsettled_own)
    last)
    others)
    rest)
    is

pub judged_by_own : (question : Judging) (rules : Rules) (words : List (List ℕ)) (r : Record) (v : Verdict) (report : List ℕ) → IsJudgedBy question rules words r v report → IsOwn v
judged_by_own judging.ByRule rules words r v report is = judged_own rules words r v report is
judged_by_own judging.BySearch rules words r v report is = settled_own rules words r v report is
