-- What is known about the deals of a record that passed.
use Rattle.std.specs.Prelude.{◌≡◌, ℕ, ◌+◌, take, slice_get, Some}
use Rattle.gcg_read.specs.declared.events.Event.{Event}
use Rattle.game_turns.specs.declared.passed.Passed.{Passed}
use Rattle.game_turns.specs.Passing.{rules_in, record_in}
use Rattle.deal_cuts.specs.Cutting.{HasNoDeal}
use Rattle.deal_cuts.specs.declared.earlier.Earlier.{Earlier}
use Rattle.deal_search.specs.Settling.{IsKnownOf}
use Rattle.game_deal.specs.declared.settling.Settled.{Settled}
use Rattle.game_deal.specs.declared.settling.Settled.TheVariants as settled
use Rattle.game_deal.specs.Bounded.{steps_in, FitsRecord}

-- No racks fit the steps up to and including an event on this line, and this is known about the steps before it: that some racks
-- fit them, or nothing.
pub record EndsOnLine (passed : Passed) (line : ℕ) (earlier : Earlier) : Type 0 where
  pub place : ℕ
  pub event : Event
  pub stands : slice_get (record_in passed).events place ≡ Some event
  pub on_line : event.line ≡ line
  pub undealt : HasNoDeal (rules_in passed) (take (place + 1) (steps_in passed))
  pub known : IsKnownOf (rules_in passed) (steps_in passed) place earlier

-- A deal fits; or no racks fit the steps up to a line.
abbrev pub IsSettledOf : Passed → Settled → Type 0
IsSettledOf passed (settled.Dealt deal) = FitsRecord passed deal
IsSettledOf passed (settled.NoDeal line earlier) = EndsOnLine passed line earlier
IsSettledOf passed settled.Unknown = Unit {0}
