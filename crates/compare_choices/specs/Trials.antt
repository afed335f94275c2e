-- The result of one choice.
use Rattle.std.specs.Prelude.{◌≡◌, ℕ, List}
use Rattle.ref_tiles.specs.declared.rulebook.Rules.{Rules}
use Rattle.gcg_read.specs.declared.events.Event.{Event}
use Rattle.game_deal.specs.Verdicts.{IsGame}
use Rattle.compare_alignments.specs.declared.merging.NumbersOf.TheVariants.{Taken}
use Rattle.compare_choices.specs.declared.sheets.Sheets.{Sheets}
use Rattle.compare_choices.specs.declared.trials.Trial.{Trial}
use Rattle.compare_choices.specs.declared.trials.Trial.TheVariants as trial
use Rattle.compare_choices.specs.Choices.{choice_events, IsRight}
use Rattle.compare_choices.specs.Corrected.{Stops}
use Rattle.compare_choices.specs.Finds.{IsGameOf, IsOpen}

-- the rules allow each event with its right numbers, but no deal yields the racks
pub record MakesNoGame (rules : Rules) (list : List (List ℕ)) (s : Sheets) (choice : ℕ) : Type 0 where
  pub right : List Event
  pub is : IsRight rules list (choice_events s Taken choice) right
  pub none : IsGame rules list right → ⊥

-- The result of a choice: an event is refused whatever its numbers are, or no deal yields the racks, or that is not known, or it makes a game.
abbrev pub IsTrial : Rules → (list : List (List ℕ)) → Sheets → (choice : ℕ) → Trial → Type 0
IsTrial rules list s choice (trial.Stops stopped) = Stops rules list (choice_events s Taken choice) stopped
IsTrial rules list s choice trial.NoGame = MakesNoGame rules list s choice
IsTrial rules list s choice trial.Open = IsOpen rules list s choice
IsTrial rules list s choice (trial.Game b) = IsGameOf rules list s b × (b.choice ≡ choice)
