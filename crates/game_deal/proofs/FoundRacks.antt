-- What the bounds, the deal of the rule and a search say of the racks of a record that passed.
use Rattle.std.proofs.Common.{◌≡◌, ℕ, Bool, true, false, List, Option, Some, None, IfSome, IsTrue, ◌↔◌, subst, sym, ◌∙◌}
use Rattle.std.specs.Option.{IsSomeAnd}
use Rattle.game_turns.specs.declared.passed.Passed.{Passed}
use Rattle.game_turns.specs.Passing.{rules_in, record_in}
use Rattle.game_turns.specs.Places.{AreAllowed}
use Rattle.deal_steps.specs.declared.deals.Held.{Held}
use Rattle.deal_steps.specs.declared.faults.DealBound.{DealBound}
use Rattle.deal_steps.specs.Fitting.{Fits}
use Rattle.deal_completion.specs.Completion.{dealt}
use Rattle.deal_cuts.specs.declared.earlier.Earlier.{Earlier}
use Rattle.game_deal.specs.declared.faults.DealFault.{DealFault}
use Rattle.game_deal.specs.declared.racks.RackFinding.TheVariants as rack
use Rattle.game_deal.specs.declared.racks.RackTrial.TheVariants as trial
use Rattle.game_deal.specs.Bounded.{bound_in, IsBounded, FitsRecord}
use Rattle.game_deal.specs.Faulty.{bound_reported, IsFaultOf}
use Rattle.game_deal.specs.Plain.{HaveNoExchange}
use Rattle.game_deal.specs.Racks.{IsUndealtByRule, AreTried, AreFound}
use Rattle.game_deal.specs.Recorded.{steps_of}
use Rattle.game_deal.specs.Verdicts.{IsDealt, IsUnsettled, HasNoDealBy}

-- a value for which something holds
pub some_of : {T : Type 0} (o : Option T) (P : T → Type 0) → IsSomeAnd o P → (x : T) × P x
some_of None P h = absurd h
some_of (Some x) P h = (x, h)

-- ---- the deal of the rule, and the search

pub tried_dealt : (passed : Passed) (b : Bool) → b ≡ true → IsTrue b ↔ IsDealt (rules_in passed) (record_in passed).events → AreTried passed trial.Dealt
tried_dealt passed b holds same = same.0 holds

pub tried_open : (passed : Passed) (b : Bool) → IsBounded passed → b ≡ false → IsTrue b ↔ IsDealt (rules_in passed) (record_in passed).events
    → (HaveNoExchange (record_in passed).events → IsTrue b) → AreTried passed trial.Open
tried_open passed b bounded fails same plain =
    record {
      bounded = bounded;
      undealt = λ is. let both : false ≡ true = sym fails ∙ same.1 is in cc;
      exchanged = λ none. let both : false ≡ true = sym fails ∙ plain none in cc;
    }

-- a fault gives the first bound that is exceeded, which both a trial and a finding give
pub tried_past : (passed : Passed) (why : DealFault) (bound : DealBound) → IsFaultOf passed why → bound_reported why ≡ Some bound → bound_in passed ≡ Some bound
tried_past passed why bound fault reported = subst (λ (o : Option DealBound). IfSome o (λ b. bound_in passed ≡ Some b)) reported fault

-- if the deal of the rule fits, some deal does
pub dealt_found : (passed : Passed) → AreTried passed trial.Dealt → AreFound passed rack.Dealt
dealt_found passed is =
    let deal = some_of (dealt (rules_in passed) (steps_of (rules_in passed) (record_in passed).events)) (Fits (rules_in passed) (steps_of (rules_in passed) (record_in passed).events)) is in
    record { racks = deal.0; fits = deal.1 }

pub found_deal : (passed : Passed) (racks : List Held) → FitsRecord passed racks → AreFound passed rack.Dealt
found_deal passed racks fits = record { racks = racks; fits = fits }

-- ---- verdicts

pub ends_on : (passed : Passed) (words : List (List ℕ)) (line : ℕ) (earlier : Earlier) → AreAllowed (rules_in passed) words (record_in passed).events → AreFound passed (rack.NoDeal line earlier)
    → HasNoDealBy (rules_in passed) words (record_in passed).events line earlier
ends_on passed words line earlier allowed found =
    record {
      allowed = allowed;
      bounded = found.0;
      place = found.1.place;
      event = found.1.event;
      stands = found.1.stands;
      on_line = found.1.on_line;
      undealt = found.1.undealt;
      known = found.1.known;
    }

pub remains_open : (passed : Passed) (words : List (List ℕ)) → AreAllowed (rules_in passed) words (record_in passed).events → IsUndealtByRule passed
    → IsUnsettled (rules_in passed) words (record_in passed).events
remains_open passed words allowed remaining = record { allowed = allowed; bounded = remaining.bounded; undealt = remaining.undealt; exchanged = remaining.exchanged }
