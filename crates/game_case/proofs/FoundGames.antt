-- What is found of the game of a record.
use Rattle.std.proofs.Common.{◌≡◌, ℕ, Bool, List, [], slice_get, Some, sym, subst}
use Rattle.ref_tiles.specs.declared.rulebook.Rules.{Rules}
use Rattle.gcg_read.specs.declared.events.Event.{Event}
use Rattle.gcg_read.specs.declared.records.Record.{Record}
use Rattle.game_turns.specs.declared.passed.Passed.{Passed}
use Rattle.game_turns.specs.declared.faults.RuleFault.{RuleFault}
use Rattle.game_turns.specs.Passing.{rules_in, record_in}
use Rattle.game_turns.specs.Places.{AreAllowed, IsFirstRefusal, is_finished}
use Rattle.deal_steps.specs.declared.faults.DealBound.{DealBound}
use Rattle.deal_steps.specs.declared.faults.DealBound.TheVariants as deal
use Rattle.deal_cuts.specs.declared.earlier.Earlier.{Earlier}
use Rattle.game_deal.specs.declared.racks.RackFinding.TheVariants as rack
use Rattle.game_deal.specs.declared.racks.RackTrial.TheVariants as trial
use Rattle.game_deal.specs.Laws.{FittingIsBounded}
use Rattle.game_deal.specs.Racks.{AreTried, AreFound}
use Rattle.game_deal.specs.Verdicts.{IsGame}
use Rattle.game_deal.proofs.Deals.{exceeds}
use Rattle.game_deal.proofs.FoundRacks.{ends_on, remains_open}
use Rattle.engine_stages.specs.declared.verdicts.GameFault.TheVariants as game
use Rattle.game_case.specs.declared.findings.Finding.{Finding}
use Rattle.game_case.specs.declared.findings.Finding.TheVariants as finding
use Rattle.game_case.specs.Archiving.{past_bound, HasEvents, IsFinding}
use Rattle.game_case.specs.Settling.{IsTriedAs, IsSettledAs}

-- ---- what is found of racks

dealt_game : (passed : Passed) (words : List (List ℕ)) → AreAllowed (rules_in passed) words (record_in passed).events → AreFound passed rack.Dealt
    → IsGame (rules_in passed) words (record_in passed).events
dealt_game passed words allowed deal = record { allowed = allowed; racks = deal.racks; dealt = deal.fits }

pub found_dealt : (passed : Passed) (words : List (List ℕ)) (complete : Bool) → AreAllowed (rules_in passed) words (record_in passed).events → AreFound passed rack.Dealt
    → complete ≡ is_finished (rules_in passed) (record_in passed).events → IsSettledAs (rules_in passed) words (record_in passed).events (finding.Legal complete)
found_dealt passed words complete allowed deal is = (dealt_game passed words allowed deal, is)

past_found : FittingIsBounded → (passed : Passed) (words : List (List ℕ)) (bound : DealBound) → AreAllowed (rules_in passed) words (record_in passed).events
    → AreFound passed (rack.PastBound bound) → IsSettledAs (rules_in passed) words (record_in passed).events (past_bound bound)
past_found law passed words (deal.RackTooBig line) allowed found = exceeds law (rules_in passed) words (record_in passed).events (deal.RackTooBig line) allowed found
past_found law passed words (deal.TilesShort line kind) allowed found = exceeds law (rules_in passed) words (record_in passed).events (deal.TilesShort line kind) allowed found

pub found_past : FittingIsBounded → (passed : Passed) (words : List (List ℕ)) (bound : DealBound) (f : Finding) → AreAllowed (rules_in passed) words (record_in passed).events
    → AreFound passed (rack.PastBound bound) → f ≡ past_bound bound → IsSettledAs (rules_in passed) words (record_in passed).events f
found_past law passed words bound f allowed found is =
    subst (λ (g : Finding). IsSettledAs (rules_in passed) words (record_in passed).events g) (sym is) (past_found law passed words bound allowed found)

pub found_out : (passed : Passed) (words : List (List ℕ)) (line : ℕ) (earlier : Earlier) → AreAllowed (rules_in passed) words (record_in passed).events
    → AreFound passed (rack.NoDeal line earlier) → IsSettledAs (rules_in passed) words (record_in passed).events (finding.Illegal line (game.NoDeal earlier))
found_out passed words line earlier allowed found = ends_on passed words line earlier allowed found

pub found_open : (passed : Passed) (words : List (List ℕ)) → AreAllowed (rules_in passed) words (record_in passed).events → AreFound passed rack.Unknown
    → IsSettledAs (rules_in passed) words (record_in passed).events finding.Unsettled
found_open passed words allowed found = remains_open passed words allowed found

-- ---- by the deal of the rule alone

pub tried_dealt : (passed : Passed) (words : List (List ℕ)) (complete : Bool) → AreAllowed (rules_in passed) words (record_in passed).events → AreTried passed trial.Dealt
    → complete ≡ is_finished (rules_in passed) (record_in passed).events → IsTriedAs (rules_in passed) words (record_in passed).events (finding.Legal complete)
tried_dealt passed words complete allowed dealt is = (allowed, dealt, is)

past_tried : FittingIsBounded → (passed : Passed) (words : List (List ℕ)) (bound : DealBound) → AreAllowed (rules_in passed) words (record_in passed).events
    → AreTried passed (trial.PastBound bound) → IsTriedAs (rules_in passed) words (record_in passed).events (past_bound bound)
past_tried law passed words (deal.RackTooBig line) allowed found = exceeds law (rules_in passed) words (record_in passed).events (deal.RackTooBig line) allowed found
past_tried law passed words (deal.TilesShort line kind) allowed found = exceeds law (rules_in passed) words (record_in passed).events (deal.TilesShort line kind) allowed found

pub tried_past : FittingIsBounded → (passed : Passed) (words : List (List ℕ)) (bound : DealBound) (f : Finding) → AreAllowed (rules_in passed) words (record_in passed).events
    → AreTried passed (trial.PastBound bound) → f ≡ past_bound bound → IsTriedAs (rules_in passed) words (record_in passed).events f
tried_past law passed words bound f allowed found is =
    subst (λ (g : Finding). IsTriedAs (rules_in passed) words (record_in passed).events g) (sym is) (past_tried law passed words bound allowed found)

pub tried_open : (passed : Passed) (words : List (List ℕ)) → AreAllowed (rules_in passed) words (record_in passed).events → AreTried passed trial.Open
    → IsTriedAs (rules_in passed) words (record_in passed).events finding.Unsettled
tried_open passed words allowed found = remains_open passed words allowed found

-- ---- of a record with an event

pub with_events : (rules : Rules) (words : List (List ℕ)) (r : Record) (f : Finding) → HasEvents r → IsSettledAs rules words r.events f → IsFinding rules words r f
with_events rules words r finding.NoGame has is = absurd is
with_events rules words r (finding.Legal complete) has is = (has, is.0, is.1)
with_events rules words r (finding.Illegal line fault) has is = (has, is)
with_events rules words r finding.Unsettled has is = (has, is)

-- ---- refusals

-- if there is an event, there are events
has_events : (r : Record) (place : ℕ) (event : Event) → slice_get r.events place ≡ Some event → HasEvents r
has_events r place event stands = λ none. let both : slice_get [] place ≡ Some event = subst (λ (events : List Event). slice_get events place ≡ Some event) none stands in cc

pub refused : (rules : Rules) (words : List (List ℕ)) (r : Record) (line : ℕ) (why : RuleFault) (f : Finding) → IsFirstRefusal rules words r.events line why
    → f ≡ finding.Illegal line (game.Rule why) → IsFinding rules words r f
refused rules words r line why f first is =
    subst (λ (g : Finding). IsFinding rules words r g) (sym is) (has_events r first.place first.event first.stands, first)
