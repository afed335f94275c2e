-- What the entries of an archive mean.
use Rattle.std.specs.Prelude.{◌≡◌, ℕ, Bool, List}
use Rattle.ref_tiles.specs.declared.rulebook.Rules.{Rules}
use Rattle.gcg_read.specs.declared.records.Record.{Record}
use Rattle.game_deal.specs.Plain.{HaveNoExchange}
use Rattle.game_deal.specs.Verdicts.{IsGame}
use Rattle.engine_stages.specs.declared.verdicts.GameFault.{GameFault}
use Rattle.engine_stages.specs.declared.verdicts.Verdict.TheVariants as verdict
use Rattle.game_case.specs.declared.findings.Finding.{Finding}
use Rattle.game_case.specs.declared.findings.Finding.TheVariants as finding
use Rattle.game_case.specs.Archiving.{HasEvents, IsFinding}
use Rattle.engine.specs.Judging.{IsJudged}

-- If a finding is illegal, the record is not a game; without an exchange a game is settled; and what is legal by the deal of the
-- rule is found legal.
pub record FindingsDecide : Type 0 where
  pub illegal : (rules : Rules) (list : List (List ℕ)) (r : Record) (line : ℕ) (fault : GameFault) → IsFinding rules list r (finding.Illegal line fault) → IsGame rules list r.events → ⊥
  pub settled : (rules : Rules) (list : List (List ℕ)) (r : Record) → IsFinding rules list r finding.Unsettled → HaveNoExchange r.events → ⊥
  pub legal : (rules : Rules) (list : List (List ℕ)) (r : Record) (complete : Bool) (report : List ℕ) → IsJudged rules list r (verdict.Legal complete) report → HasEvents r
      → (f : Finding) → IsFinding rules list r f → f ≡ finding.Legal complete
