-- Whether the right events of a choice are a game, as far as a search finds out.
use Rattle.std.specs.Prelude.{◌≡◌, ℕ, List}
use Rattle.ref_tiles.specs.declared.rulebook.Rules.{Rules}
use Rattle.gcg_read.specs.declared.events.Event.{Event}
use Rattle.game_turns.specs.Places.{is_finished}
use Rattle.game_deal.specs.Verdicts.{IsGame, IsUnsettled}
use Rattle.compare_choices.specs.declared.settling.Outcome.{Outcome}
use Rattle.compare_choices.specs.declared.settling.Outcome.TheVariants as outcome

-- the events are a game, or not, or neither a deal nor a proof that there is none was found
abbrev pub IsOutcome : Rules → (list : List (List ℕ)) → List Event → Outcome → Type 0
IsOutcome rules list events (outcome.Game complete) = IsGame rules list events × (complete ≡ is_finished rules events)
IsOutcome rules list events outcome.NoGame = IsGame rules list events → ⊥
IsOutcome rules list events outcome.Unsettled = IsUnsettled rules list events
