-- What is found of events, if the rules allow each of them.
use Rattle.std.specs.Prelude.{◌≡◌, ℕ, List}
use Rattle.ref_tiles.specs.declared.rulebook.Rules.{Rules}
use Rattle.gcg_read.specs.declared.events.Event.{Event}
use Rattle.game_turns.specs.Places.{AreAllowed, is_finished}
use Rattle.deal_steps.specs.declared.faults.DealBound.TheVariants as deal
use Rattle.game_deal.specs.Verdicts.{IsGame, IsDealt, Exceeds, IsUnsettled}
use Rattle.engine_stages.specs.declared.verdicts.GameFault.{GameFault}
use Rattle.engine_stages.specs.declared.verdicts.GameFault.TheVariants as game
use Rattle.game_case.specs.declared.findings.Finding.{Finding}
use Rattle.game_case.specs.declared.findings.Finding.TheVariants as finding
use Rattle.game_case.specs.Archiving.{IsFaulty}

-- the racks exceed a bound, of which this is the fault, on this line
abbrev pub ExceedBound : Rules → (list : List (List ℕ)) → List Event → (line : ℕ) → GameFault → Type 0
ExceedBound rules list events line (game.Rule why) = ⊥
ExceedBound rules list events line game.RackTooBig = Exceeds rules list events (deal.RackTooBig line)
ExceedBound rules list events line (game.TilesShort kind) = Exceeds rules list events (deal.TilesShort line kind)
ExceedBound rules list events line (game.NoDeal earlier) = ⊥

-- by the deal of the rule of completion: it fits, or the racks exceed a bound, or neither
abbrev pub IsTriedAs : Rules → (list : List (List ℕ)) → List Event → Finding → Type 0
IsTriedAs rules list events finding.NoGame = ⊥
IsTriedAs rules list events (finding.Legal complete) = AreAllowed rules list events × IsDealt rules events × (complete ≡ is_finished rules events)
IsTriedAs rules list events (finding.Illegal line fault) = ExceedBound rules list events line fault
IsTriedAs rules list events finding.Unsettled = IsUnsettled rules list events

-- by a search too: some deal fits, or none does, or neither a deal nor a proof that there is none was found
abbrev pub IsSettledAs : Rules → (list : List (List ℕ)) → List Event → Finding → Type 0
IsSettledAs rules list events finding.NoGame = ⊥
IsSettledAs rules list events (finding.Legal complete) = IsGame rules list events × (complete ≡ is_finished rules events)
IsSettledAs rules list events (finding.Illegal line fault) = IsFaulty rules list events line fault
IsSettledAs rules list events finding.Unsettled = IsUnsettled rules list events
