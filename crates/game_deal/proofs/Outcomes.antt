-- What the racks of a record say of the game.
use Rattle.std.proofs.Common.{◌≡◌, ℕ, ◌+◌, Some, sym, ◌∙◌}
use Rattle.first_faults.proofs.CheckLaws.{some_fault}
use Rattle.game_turns.specs.declared.passed.Passed.{Passed}
use Rattle.game_turns.specs.Passing.{rules_in, record_in, list_in}
use Rattle.game_turns.specs.Places.{AreAllowed}
use Rattle.deal_cuts.specs.Laws.{FrontsDecide}
use Rattle.deal_steps.specs.declared.faults.DealBound.{DealBound}
use Rattle.deal_cuts.specs.declared.earlier.Earlier.{Earlier}
use Rattle.game_deal.specs.Bounded.{bound_in, steps_in}
use Rattle.game_deal.specs.Laws.{FittingIsBounded}
use Rattle.game_deal.specs.Settling.{EndsOnLine}
use Rattle.game_deal.specs.Racks.{HasDeal}
use Rattle.game_deal.specs.Verdicts.{IsGame}

pub a_game : (passed : Passed) → AreAllowed (rules_in passed) (list_in passed) (record_in passed).events → HasDeal passed → IsGame (rules_in passed) (list_in passed) (record_in passed).events
a_game passed allowed deal = record { allowed = allowed; racks = deal.racks; dealt = deal.fits }

pub none_past : FittingIsBounded → (passed : Passed) (bound : DealBound) → bound_in passed ≡ Some bound → IsGame (rules_in passed) (list_in passed) (record_in passed).events → ⊥
none_past law passed bound exceeds game =
    some_fault bound (sym exceeds ∙ law (rules_in passed) (list_in passed) (record_in passed).events game.racks game.allowed game.dealt)

pub none_by : FrontsDecide → (passed : Passed) (line : ℕ) (earlier : Earlier) → EndsOnLine passed line earlier → IsGame (rules_in passed) (list_in passed) (record_in passed).events → ⊥
none_by law passed line earlier ends game = law (rules_in passed) (steps_in passed) (ends.place + 1) ends.undealt game.racks game.dealt
