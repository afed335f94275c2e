-- What a finding means for the game of a record.
use Rattle.std.proofs.Common.{◌≡◌, ℕ, ◌+◌, Bool, List, ap, sym, ◌∙◌}
use Rattle.ref_tiles.specs.declared.rulebook.Rules.{Rules}
use Rattle.gcg_read.specs.declared.records.Record.{Record}
use Rattle.game_turns.specs.Places.{is_finished}
use Rattle.game_turns.proofs.PlaceLaws.{first_not_allowed}
use Rattle.deal_cuts.specs.Laws.{FrontsDecide}
use Rattle.game_deal.specs.Recorded.{steps_of}
use Rattle.game_deal.specs.Verdicts.{IsGame}
use Rattle.engine_stages.specs.declared.verdicts.GameFault.{GameFault}
use Rattle.engine_stages.specs.declared.verdicts.GameFault.TheVariants as game
use Rattle.engine_stages.specs.declared.verdicts.Verdict.TheVariants as verdict
use Rattle.game_case.specs.declared.findings.Finding.{Finding}
use Rattle.game_case.specs.declared.findings.Finding.TheVariants as finding
use Rattle.game_case.specs.Archiving.{HasEvents, IsFinding, IsFaulty}
use Rattle.engine.specs.Judging.{IsJudged}
use Rattle.engine.specs.Findings.{FindingsDecide}
use Rattle.engine.proofs.Headlines.{legal_answer, game_of, same_complete}

faulty_no_game : FrontsDecide → (rules : Rules) (words : List (List ℕ)) (r : Record) (line : ℕ) (fault : GameFault) → IsFaulty rules words r.events line fault → IsGame rules words r.events → ⊥
faulty_no_game fronts rules words r line (game.Rule why) is there = first_not_allowed rules words r.events line why is there.allowed
faulty_no_game fronts rules words r line game.RackTooBig is there = is.undealt there.racks there.dealt
faulty_no_game fronts rules words r line (game.TilesShort kind) is there = is.undealt there.racks there.dealt
faulty_no_game fronts rules words r line (game.NoDeal earlier) is there = fronts rules (steps_of rules r.events) (is.place + 1) is.undealt there.racks there.dealt

-- ---- what the deal of the rule makes legal

found_legal : FrontsDecide → (rules : Rules) (words : List (List ℕ)) (r : Record) (complete : Bool) (report : List ℕ) → IsJudged rules words r (verdict.Legal complete) report → HasEvents r
    → (f : Finding) → IsFinding rules words r f → f ≡ finding.Legal complete
found_legal fronts rules words r complete report judged has finding.NoGame is = absurd (has is)
found_legal fronts rules words r complete report judged has (finding.Legal other) is =
    let legal = legal_answer rules words r complete report judged in
    ap (λ c. finding.Legal c) (is.2 ∙ sym (same_complete complete (is_finished rules r.events) legal.reported.verdict_is))
found_legal fronts rules words r complete report judged has (finding.Illegal line fault) is =
    let legal = legal_answer rules words r complete report judged in
    absurd (faulty_no_game fronts rules words r line fault is.1 (game_of rules words r (verdict.Legal complete) report legal))
found_legal fronts rules words r complete report judged has finding.Unsettled is =
    let legal = legal_answer rules words r complete report judged in
    absurd (is.1.undealt legal.is_dealt)

pub findings_decide : FrontsDecide → FindingsDecide
findings_decide fronts =
    record {
      illegal = λ rules words r line fault is there. faulty_no_game fronts rules words r line fault is.1 there;
      settled = λ rules words r is plain. is.1.exchanged plain;
      legal = λ rules words r complete report judged has f is. found_legal fronts rules words r complete report judged has f is;
    }
