-- The bounds of the racks of records, and the deals of the rule.
use Rattle.std.proofs.Common.{◌≡◌, ℕ, Bool, false, List, Option, Some, None, IsTrue, ◌↔◌, sym, subst, ◌∙◌}
use Rattle.std.proofs.lemmas.Bool.{false≢true}
use Rattle.std.specs.Option.{IsSomeAnd}
use Rattle.ref_tiles.specs.declared.rulebook.Rules.{Rules}
use Rattle.gcg_read.specs.declared.events.Event.{Event}
use Rattle.game_turns.specs.Places.{AreAllowed}
use Rattle.deal_steps.specs.declared.deals.Held.{Held}
use Rattle.deal_steps.specs.declared.faults.DealBound.{DealBound}
use Rattle.deal_steps.specs.Bounds.{first_bound}
use Rattle.deal_steps.specs.Fitting.{Fits}
use Rattle.deal_completion.specs.Completion.{dealt}
use Rattle.game_deal.specs.Laws.{FittingIsBounded}
use Rattle.game_deal.specs.Plain.{HaveNoExchange}
use Rattle.game_deal.specs.Recorded.{steps_of}
use Rattle.game_deal.specs.Verdicts.{IsDealt, Exceeds}

-- a bound that is exceeded: then no deal fits
pub exceeds : FittingIsBounded → (rules : Rules) (words : List (List ℕ)) (events : List Event) (bound : DealBound) → AreAllowed rules words events → first_bound rules (steps_of rules events) ≡ Some bound
    → Exceeds rules words events bound
exceeds law rules words events bound allowed is =
    record {
      allowed = allowed;
      exceeded = is;
      undealt = λ racks fits. let both : Some bound ≡ None = sym is ∙ law rules words events racks allowed fits in cc;
    }

-- ---- whether the rule gives a deal that fits

none_fit : (P : Type 0) → (P → ⊥) → IsTrue false ↔ P
none_fit P h = (λ e. absurd (false≢true e), λ p. absurd (h p))

pub deal_fits : (rules : Rules) (events : List Event) (given : Option (List Held)) (racks : List Held) (b : Bool) → given ≡ dealt rules (steps_of rules events) → given ≡ Some racks
    → IsTrue b ↔ Fits rules (steps_of rules events) racks → IsTrue b ↔ IsDealt rules events
deal_fits rules events given racks b is some fits =
    let same : Some racks ≡ dealt rules (steps_of rules events) = sym some ∙ is in
    subst (λ (d : Option (List Held)). IsTrue b ↔ IsSomeAnd d (Fits rules (steps_of rules events))) same fits

pub no_deal_fits : (rules : Rules) (events : List Event) (given : Option (List Held)) → given ≡ dealt rules (steps_of rules events) → given ≡ None → IsTrue false ↔ IsDealt rules events
no_deal_fits rules events given is none =
    let same : None ≡ dealt rules (steps_of rules events) = sym none ∙ is in
    subst (λ (d : Option (List Held)). IsTrue false ↔ IsSomeAnd d (Fits rules (steps_of rules events))) same (none_fit ⊥ (λ f. f))

-- without an exchange it does
pub plain_fits : (rules : Rules) (events : List Event) (given : Option (List Held)) (b : Bool) → given ≡ dealt rules (steps_of rules events)
    → (HaveNoExchange events → IsSomeAnd given (Fits rules (steps_of rules events))) → IsTrue b ↔ IsDealt rules events → HaveNoExchange events → IsTrue b
plain_fits rules events given b is plain same none =
    same.1 (subst (λ (d : Option (List Held)). IsSomeAnd d (Fits rules (steps_of rules events))) is (plain none))
