-- What is legal by the deal of the rule is legal if a deal is searched for.
use Rattle.std.proofs.Common.{◌≡◌, ◌+◌, ℕ, Bool, List, sym, ◌∙◌, ◌⊎◌, ⊎_elim}
use Rattle.ref_tiles.specs.declared.rulebook.Rules.{Rules}
use Rattle.gcg_read.specs.declared.records.Record.{Record}
use Rattle.deal_cuts.specs.Laws.{FrontsDecide}
use Rattle.game_deal.specs.Recorded.{steps_of}
use Rattle.engine_stages.specs.declared.verdicts.Verdict.{Verdict}
use Rattle.engine_stages.specs.declared.verdicts.Verdict.TheVariants as verdict
use Rattle.engine.specs.Judging.{IsLegal, IsRefused, IsPastBound, RemainsOpen}
use Rattle.engine.specs.Settling.{IsSettledLegal, IsUndealt, IsSettled, LegalStaysLegal}
use Rattle.engine.proofs.Headlines.{legal_answer, game_of}
use Rattle.game_turns.proofs.PlaceLaws.{first_not_allowed}

settled_as : FrontsDecide → (rules : Rules) (words : List (List ℕ)) (r : Record) (complete : Bool) (report : List ℕ) → IsLegal rules words r (verdict.Legal complete) report
    → (v : Verdict) (settled : List ℕ) → IsSettled rules words r v settled → v ≡ verdict.Legal complete
settled_as fronts rules words r complete report legal v settled is =
    let game = game_of rules words r (verdict.Legal complete) report legal in
    ⊎_elim
    (λ (own : IsSettledLegal rules words r v settled). own.reported.verdict_is ∙ sym legal.reported.verdict_is)
    (λ (rest : IsRefused rules words r v settled ⊎ IsPastBound rules words r v settled ⊎ IsUndealt rules words r v settled ⊎ RemainsOpen rules words r v settled).
    ⊎_elim
    (λ (refused : IsRefused rules words r v settled). absurd (first_not_allowed rules words r.events refused.line refused.why refused.first legal.allowed))
    (λ (others : IsPastBound rules words r v settled ⊎ IsUndealt rules words r v settled ⊎ RemainsOpen rules words r v settled).
    ⊎_elim
    (λ (past : IsPastBound rules words r v settled). absurd (past.exceeded.undealt game.racks game.dealt))
    (λ (last : IsUndealt rules words r v settled ⊎ RemainsOpen rules words r v settled).
    ⊎_elim
    (λ (none : IsUndealt rules words r v settled). absurd (fronts rules (steps_of rules r.events) (none.ends.place + 1) none.ends.undealt game.racks game.dealt))
    (λ (remaining : RemainsOpen rules words r v settled). absurd (remaining.unsettled.undealt legal.is_dealt))
    last)
    others)
    rest)
    is

pub legal_stays_legal : FrontsDecide → LegalStaysLegal
legal_stays_legal fronts rules words r complete report judged v settled is =
    settled_as fronts rules words r complete report (legal_answer rules words r complete report judged) v settled is
