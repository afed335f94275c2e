-- What is found of the racks of a record that passed: by the deal of the rule of completion, or by a search too.
use Rattle.std.specs.Prelude.{◌≡◌, List, Some}
use Rattle.game_turns.specs.declared.passed.Passed.{Passed}
use Rattle.game_turns.specs.Passing.{rules_in, record_in}
use Rattle.deal_steps.specs.declared.deals.Held.{Held}
use Rattle.game_deal.specs.Bounded.{bound_in, IsBounded, FitsRecord}
use Rattle.game_deal.specs.Plain.{HaveNoExchange}
use Rattle.game_deal.specs.Settling.{EndsOnLine}
use Rattle.game_deal.specs.declared.racks.RackFinding.{RackFinding}
use Rattle.game_deal.specs.declared.racks.RackFinding.TheVariants as rack
use Rattle.game_deal.specs.declared.racks.RackTrial.{RackTrial}
use Rattle.game_deal.specs.declared.racks.RackTrial.TheVariants as trial
use Rattle.game_deal.specs.Verdicts.{IsDealt}

-- some deal yields every rack
pub record HasDeal (passed : Passed) : Type 0 where
  pub racks : List Held
  pub fits : FitsRecord passed racks

-- no bound is exceeded, but the rule of completion gives no deal that fits, and that only if tiles were exchanged
pub record IsUndealtByRule (passed : Passed) : Type 0 where
  pub bounded : IsBounded passed
  pub undealt : IsDealt (rules_in passed) (record_in passed).events → ⊥
  pub exchanged : HaveNoExchange (record_in passed).events → ⊥

-- The deal of the rule of completion fits, or a bound is exceeded, or neither.
abbrev pub AreTried : Passed → RackTrial → Type 0
AreTried passed trial.Dealt = IsDealt (rules_in passed) (record_in passed).events
AreTried passed (trial.PastBound bound) = bound_in passed ≡ Some bound
AreTried passed trial.Open = IsUndealtByRule passed

-- A deal fits, or a bound is exceeded, or no racks fit the steps up to a line; or neither a deal nor a proof that there is none
-- was found, and that only if the deal of the rule does not fit and tiles were exchanged.
abbrev pub AreFound : Passed → RackFinding → Type 0
AreFound passed rack.Dealt = HasDeal passed
AreFound passed (rack.PastBound bound) = bound_in passed ≡ Some bound
AreFound passed (rack.NoDeal line earlier) = IsBounded passed × EndsOnLine passed line earlier
AreFound passed rack.Unknown = IsUndealtByRule passed
